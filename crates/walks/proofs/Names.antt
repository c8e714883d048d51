-- The names that a walk of a function's MIR by hand cites, passed on under one module.
-- Assumes nothing.
pub use mathlib.Core.Path.{◌≡◌, refl, sym, ◌∙◌, ap, subst}
pub use mathlib.Core.List.{List, [], ◌∷◌}
pub use mathlib.Core.Bool.{Bool, true, false}
pub use Prim.Native.Nat.{ℕ, ◌<◌, ◌^◌, ◌+◌}
pub use lib.ListN.{length}
pub use seplogic.Ra.Ura.{Ura}
pub use base.Fraction.{full_share}
pub use mir.Syntax.{named, erased, w8, w64, ty_int}
pub use mir.Val.{Val, vunit, vbool, vint, vptr, vstruct, vcons, vnil}
pub use base.Logic.{SProp, ent, sep, emp, via, fst∗, snd∗, ex_e, id⊢}
pub use base.Fml.{Lft, Share, GName, Fml, ftrue, fsep, fat, flft, fdead, fobs, fbor, fauth, fres, flent, fobor}
pub use prog.Memory.{Memory}
pub use prog.Routine.{Routine}
pub use prog.Wp.{Heap, Calls, Loops, WpFn, Tables}
pub use ghost.Atoms.{Atoms}
pub use types.Logic.{sem}
pub use contract.Monad.{Fun, fact}
pub use contract.Running.{tables}
unfoldable pub use contract.Running.{tables_of}
pub use types.Kit.{Item, Goal, Soaks, Seq, Step, step, ‵, raw, given, some, later, ◌⊛◌, ⋆, ◌$◌, ◌∵◌, !, qed, by, move, keep, drop}
pub use types.Kit.{use1, use2, use3, split, join, pick, learn, rewrite, fsplit, fsplit3, fjoin, fjoin3, fpick, fpack, feq_l, feq_i, suffices, frame, await}
pub use types.Kit.{done}
pub use types.Kit.{updating, show}
pub use types.Run.{look, init, forget, stop, hop, fld, from, load, lit, addr, unit_lit, true_lit, false_lit, of_opd}
pub use types.Run.{and_then, no_more, assigns, land, returns, enter}
pub use types.Run.{alloc1, alloc0, params1, pass1, pass0, free1, free0}
pub use types.Part.{agg, whole, sub, look_in, store_in}
pub use types.SemTy.{Body}
pub use types.Tokens.{lft_new, lft_end}
pub use sound.WpLaws.{FmC, fm_of, WpFn-mono}
pub use denote.RattleType.{RattleType, owns}
pub use denote.Memory.{mem, cell_at}
unfoldable pub use denote.Memory.{part_of}
pub use denote.Laws.{Is, shows}
pub use denote.Plain.{uint_Makes, uint_vals, uint_Tells, uint_Lawful, bool_Makes, bool_vals, bool_Tells, bool_Lawful}
pub use denote.Builtin.{u8, u64, usize, bool}
pub use denote.Ref.{Bor, MutBor, NamedLft, MutRef, shr_vals, mut_vals, mut_Tells}
pub use denote.Slice.{slice_val, MutSlice, Room, finally, shr_slice_vals, mut_slice_vals, mut_slice_Tells}
pub use denote.Steps.{only, opens, closes, owned, peeks, heard, nothing}
pub use denote.Struct.Steps.{spelt}
pub use denote.Triple.Entry.{on_entry}
pub use denote.Triple.Spec.{Meets, triple_of}
pub use denote.Triple.Statement.{Contract, Triple}
pub use denote.Triple.Call.{calls_at}
pub use denote.Triple.Clauses.{ensured, lasts}
pub use denote.Triple.Table.{entered, cited}
pub use denote.Triple.Walked.{says, needs, Stays, stay_ref, stay_none, gave_slice, walk_of, Goes-ref}
pub use denote.Triple.Walked.{Goes-none, Goes-gave_slice, Walks, ends_at, walked, walk_Meets}
pub use denote.Exit.{yes, no}
pub use denote.Signature.{plain, named_lft}
