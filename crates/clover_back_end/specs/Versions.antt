-- Which library this is: its release, and the form of what goes in and out (docs/FORMAT.md, 'Version and layout')
use Rattle.clover_back_end.specs.declared.Version.{Version}

unfoldable pub this_version : Version
this_version = record { version = 6; layout = 6 }
