-- The counts of a book after a step, one field or one area's anew. Assumes nothing.
use Prim.Native.Nat.{ℕ}
use Rattle.building.specs.declared.taking.Taken.{Taken}
use Rattle.compiler_laws.specs.declared.book.Book as struct

-- the mark anew
abbrev pub with_mark : ℕ → struct.Book → struct.Book
with_mark n s = record {
  full = n;
  code = s.code;
  constants = s.constants;
  functions = s.functions;
  models = s.models;
  properties = s.properties;
  methods = s.methods;
  locals = s.locals;
  publics = s.publics;
  errors = s.errors;
  file = s.file;
  first_local = s.first_local;
  first_public = s.first_public;
  entry_point = s.entry_point;
  standing_methods = s.standing_methods;
  strict = s.strict;
}

-- the counts after an entry more of area 3
abbrev pub with_function_count : Taken → struct.Book → struct.Book
with_function_count t s = record {
  full = t.full;
  code = s.code;
  constants = s.constants;
  functions = t.count;
  models = s.models;
  properties = s.properties;
  methods = s.methods;
  locals = s.locals;
  publics = s.publics;
  errors = s.errors;
  file = s.file;
  first_local = s.first_local;
  first_public = s.first_public;
  entry_point = s.entry_point;
  standing_methods = s.standing_methods;
  strict = s.strict;
}

-- the counts after an entry more of area 4
abbrev pub with_model_count : Taken → struct.Book → struct.Book
with_model_count t s = record {
  full = t.full;
  code = s.code;
  constants = s.constants;
  functions = s.functions;
  models = t.count;
  properties = s.properties;
  methods = s.methods;
  locals = s.locals;
  publics = s.publics;
  errors = s.errors;
  file = s.file;
  first_local = s.first_local;
  first_public = s.first_public;
  entry_point = s.entry_point;
  standing_methods = s.standing_methods;
  strict = s.strict;
}

-- the counts after an entry more of area 5
abbrev pub with_property_count : Taken → struct.Book → struct.Book
with_property_count t s = record {
  full = t.full;
  code = s.code;
  constants = s.constants;
  functions = s.functions;
  models = s.models;
  properties = t.count;
  methods = s.methods;
  locals = s.locals;
  publics = s.publics;
  errors = s.errors;
  file = s.file;
  first_local = s.first_local;
  first_public = s.first_public;
  entry_point = s.entry_point;
  standing_methods = s.standing_methods;
  strict = s.strict;
}

-- the counts after an entry more of area 6
abbrev pub with_method_count : Taken → struct.Book → struct.Book
with_method_count t s = record {
  full = t.full;
  code = s.code;
  constants = s.constants;
  functions = s.functions;
  models = s.models;
  properties = s.properties;
  methods = t.count;
  locals = s.locals;
  publics = s.publics;
  errors = s.errors;
  file = s.file;
  first_local = s.first_local;
  first_public = s.first_public;
  entry_point = s.entry_point;
  standing_methods = s.standing_methods;
  strict = s.strict;
}

-- the counts after an entry more of area 7
abbrev pub with_locals : Taken → struct.Book → struct.Book
with_locals t s = record {
  full = t.full;
  code = s.code;
  constants = s.constants;
  functions = s.functions;
  models = s.models;
  properties = s.properties;
  methods = s.methods;
  locals = t.count;
  publics = s.publics;
  errors = s.errors;
  file = s.file;
  first_local = s.first_local;
  first_public = s.first_public;
  entry_point = s.entry_point;
  standing_methods = s.standing_methods;
  strict = s.strict;
}

-- the counts after an entry more of area 8
abbrev pub with_public_count : Taken → struct.Book → struct.Book
with_public_count t s = record {
  full = t.full;
  code = s.code;
  constants = s.constants;
  functions = s.functions;
  models = s.models;
  properties = s.properties;
  methods = s.methods;
  locals = s.locals;
  publics = t.count;
  errors = s.errors;
  file = s.file;
  first_local = s.first_local;
  first_public = s.first_public;
  entry_point = s.entry_point;
  standing_methods = s.standing_methods;
  strict = s.strict;
}

-- the entry point anew
abbrev pub entering : ℕ → struct.Book → struct.Book
entering i s = record {
  full = s.full;
  code = s.code;
  constants = s.constants;
  functions = s.functions;
  models = s.models;
  properties = s.properties;
  methods = s.methods;
  locals = s.locals;
  publics = s.publics;
  errors = s.errors;
  file = s.file;
  first_local = s.first_local;
  first_public = s.first_public;
  entry_point = i;
  standing_methods = s.standing_methods;
  strict = s.strict;
}
