-- `Keys::entry_differs` meets its contract: an entry of another share, one whose place is free, one that is searched. Assumes nothing.
use Rattle.program_check.proofs.KeyPlaces.{in_set, look_other, look_free, look_search}
use mathlib.Core.Path.{ap}
use mathlib.Core.Bool.{not}
use Rattle.program_check.proofs.keys.Keys.entry_differs.Goals as goal

pub returns-then-hash-shares : goal.returns-then-hash-shares
returns-then-hash-shares c =
    look_other c.args.self.now.width c.args.self.now.group c.args.self.now.name c.args.self.now.words.now c.args.shares c.args.share c.args.i
    c.entry_word-group.ensures c.entry_word-name.ensures c.hash_of-hash.ensures c.requires.has_places c.if-hash-shares.true

pub note-taken-requires : goal.note-taken-requires
note-taken-requires c =
    in_set c.hash_of-hash.result c.requires.set_len

pub shape_of-set-then-not-taken : goal.shape_of-set-then-not-taken
shape_of-set-then-not-taken c = c.note-taken.auto.set

pub returns-then-not-taken : goal.returns-then-not-taken
returns-then-not-taken c =
    look_free c.args.self.now.width c.args.self.now.group c.args.self.now.name c.args.self.now.words.now c.args.shares c.args.share c.args.i
    c.entry_word-group.ensures c.entry_word-name.ensures c.hash_of-hash.ensures c.requires.has_places c.note-taken.ensures c.if-hash-shares.false
    (ap not c.if-not-taken.true)

pub shape_of-set : goal.shape_of-set
shape_of-set c = c.note-taken.auto.set

pub returns : goal.returns
returns c =
    look_search c.args.self.now.width c.args.self.now.group c.args.self.now.name c.args.self.now.words.now c.args.shares c.args.share c.args.i
    c.entry_word-group.ensures c.entry_word-name.ensures c.hash_of-hash.ensures c.requires.has_places c.note-taken.ensures
    c.if-hash-shares.false c.is_fresh.ensures
