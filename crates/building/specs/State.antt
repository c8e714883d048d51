-- The struct `FunctionState` of `function_state.rt`: fresh, and with fields anew
use Rattle.std.specs.Prelude.{ℕ, ◌-◌, ◌^◌, Bool, false}
use Rattle.building.specs.declared.taking.Taken.{Taken}
use Rattle.building.specs.declared.function_state.FunctionState.{FunctionState}

-- a depth that is greater counts as this
abbrev pub most_depth : ℕ
most_depth = 2 ^ 64 - 1

-- `FunctionState::new`
abbrev pub begun : ℕ → ℕ → ℕ → ℕ → FunctionState
begun full code constants errors =
    record {
      full = full;
      code = code;
      constants = constants;
      names = 0;
      breaks = 0;
      errors = errors;
      base = code;
      scope_base = 0;
      break_base = 0;
      in_loop = false;
      depth = 0;
      rescue_position = 0;
      is_instance = false;
      parameter_count = 0;
      local_count = 0;
    }

-- area 1 after taking an entry, and so on for each area
abbrev pub with_code : Taken → FunctionState → FunctionState
with_code t s =
    record {
      full = t.full;
      code = t.count;
      constants = s.constants;
      names = s.names;
      breaks = s.breaks;
      errors = s.errors;
      base = s.base;
      scope_base = s.scope_base;
      break_base = s.break_base;
      in_loop = s.in_loop;
      depth = s.depth;
      rescue_position = s.rescue_position;
      is_instance = s.is_instance;
      parameter_count = s.parameter_count;
      local_count = s.local_count;
    }

-- area 2
abbrev pub with_constants : Taken → FunctionState → FunctionState
with_constants t s =
    record {
      full = t.full;
      code = s.code;
      constants = t.count;
      names = s.names;
      breaks = s.breaks;
      errors = s.errors;
      base = s.base;
      scope_base = s.scope_base;
      break_base = s.break_base;
      in_loop = s.in_loop;
      depth = s.depth;
      rescue_position = s.rescue_position;
      is_instance = s.is_instance;
      parameter_count = s.parameter_count;
      local_count = s.local_count;
    }

-- area 9
abbrev pub with_names : Taken → FunctionState → FunctionState
with_names t s =
    record {
      full = t.full;
      code = s.code;
      constants = s.constants;
      names = t.count;
      breaks = s.breaks;
      errors = s.errors;
      base = s.base;
      scope_base = s.scope_base;
      break_base = s.break_base;
      in_loop = s.in_loop;
      depth = s.depth;
      rescue_position = s.rescue_position;
      is_instance = s.is_instance;
      parameter_count = s.parameter_count;
      local_count = s.local_count;
    }

-- area 10
abbrev pub with_breaks : Taken → FunctionState → FunctionState
with_breaks t s =
    record {
      full = t.full;
      code = s.code;
      constants = s.constants;
      names = s.names;
      breaks = t.count;
      errors = s.errors;
      base = s.base;
      scope_base = s.scope_base;
      break_base = s.break_base;
      in_loop = s.in_loop;
      depth = s.depth;
      rescue_position = s.rescue_position;
      is_instance = s.is_instance;
      parameter_count = s.parameter_count;
      local_count = s.local_count;
    }

-- area 11
abbrev pub with_errors : Taken → FunctionState → FunctionState
with_errors t s =
    record {
      full = t.full;
      code = s.code;
      constants = s.constants;
      names = s.names;
      breaks = s.breaks;
      errors = t.count;
      base = s.base;
      scope_base = s.scope_base;
      break_base = s.break_base;
      in_loop = s.in_loop;
      depth = s.depth;
      rescue_position = s.rescue_position;
      is_instance = s.is_instance;
      parameter_count = s.parameter_count;
      local_count = s.local_count;
    }

-- one count or field anew
abbrev pub with_code_count : ℕ → FunctionState → FunctionState
with_code_count n s =
    record {
      full = s.full;
      code = n;
      constants = s.constants;
      names = s.names;
      breaks = s.breaks;
      errors = s.errors;
      base = s.base;
      scope_base = s.scope_base;
      break_base = s.break_base;
      in_loop = s.in_loop;
      depth = s.depth;
      rescue_position = s.rescue_position;
      is_instance = s.is_instance;
      parameter_count = s.parameter_count;
      local_count = s.local_count;
    }

-- the live names, and where the innermost scope's start
abbrev pub with_scope : ℕ → ℕ → FunctionState → FunctionState
with_scope count scope s =
    record {
      full = s.full;
      code = s.code;
      constants = s.constants;
      names = count;
      breaks = s.breaks;
      errors = s.errors;
      base = s.base;
      scope_base = scope;
      break_base = s.break_base;
      in_loop = s.in_loop;
      depth = s.depth;
      rescue_position = s.rescue_position;
      is_instance = s.is_instance;
      parameter_count = s.parameter_count;
      local_count = s.local_count;
    }

-- the live breaks, where the innermost loop's start, and whether there is a loop
abbrev pub with_loop : ℕ → ℕ → Bool → FunctionState → FunctionState
with_loop count start inside s =
    record {
      full = s.full;
      code = s.code;
      constants = s.constants;
      names = s.names;
      breaks = count;
      errors = s.errors;
      base = s.base;
      scope_base = s.scope_base;
      break_base = start;
      in_loop = inside;
      depth = s.depth;
      rescue_position = s.rescue_position;
      is_instance = s.is_instance;
      parameter_count = s.parameter_count;
      local_count = s.local_count;
    }

-- one field anew
abbrev pub with_local_count : ℕ → FunctionState → FunctionState
with_local_count n s =
    record {
      full = s.full;
      code = s.code;
      constants = s.constants;
      names = s.names;
      breaks = s.breaks;
      errors = s.errors;
      base = s.base;
      scope_base = s.scope_base;
      break_base = s.break_base;
      in_loop = s.in_loop;
      depth = s.depth;
      rescue_position = s.rescue_position;
      is_instance = s.is_instance;
      parameter_count = s.parameter_count;
      local_count = n;
    }

-- one field anew
abbrev pub with_depth : ℕ → FunctionState → FunctionState
with_depth n s =
    record {
      full = s.full;
      code = s.code;
      constants = s.constants;
      names = s.names;
      breaks = s.breaks;
      errors = s.errors;
      base = s.base;
      scope_base = s.scope_base;
      break_base = s.break_base;
      in_loop = s.in_loop;
      depth = n;
      rescue_position = s.rescue_position;
      is_instance = s.is_instance;
      parameter_count = s.parameter_count;
      local_count = s.local_count;
    }

-- one field anew
abbrev pub with_rescue : ℕ → FunctionState → FunctionState
with_rescue n s =
    record {
      full = s.full;
      code = s.code;
      constants = s.constants;
      names = s.names;
      breaks = s.breaks;
      errors = s.errors;
      base = s.base;
      scope_base = s.scope_base;
      break_base = s.break_base;
      in_loop = s.in_loop;
      depth = s.depth;
      rescue_position = n;
      is_instance = s.is_instance;
      parameter_count = s.parameter_count;
      local_count = s.local_count;
    }

-- the parameters' two fields anew
abbrev pub with_parameters : Bool → ℕ → FunctionState → FunctionState
with_parameters b n s =
    record {
      full = s.full;
      code = s.code;
      constants = s.constants;
      names = s.names;
      breaks = s.breaks;
      errors = s.errors;
      base = s.base;
      scope_base = s.scope_base;
      break_base = s.break_base;
      in_loop = s.in_loop;
      depth = s.depth;
      rescue_position = s.rescue_position;
      is_instance = b;
      parameter_count = n;
      local_count = s.local_count;
    }
