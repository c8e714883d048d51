-- A `FunctionState` behind a `&mut`, and in a local that is lent: the steps of a walk over one.
--     opened, closed   the borrow is opened, which gives the state's cell, and closed at another state
--     lends, back      a local that holds a state is lent for a lifetime; once that is over it is back, at the last state
-- Assumes `Logic`.
use types.Logic.{Logic, sem}
use denote.Ref.{MutBor}
use Rattle.walks.proofs.Names.{ℕ, List, [], ◌∷◌, refl, ap, Ura, full_share, Val, vptr, ent, sep, Lft, Share, GName, fat, flft, fdead, fobs, fauth, fobor}
use Rattle.walks.proofs.Names.{flent, fres, sem, Item, Goal, Soaks, Seq, Step, step, ‵, ◌$◌, ◌⊛◌, some, later, given, move, drop, use1}
use Rattle.walks.proofs.Names.{fsplit, fsplit3, fjoin, fjoin3, fpick, feq_i, await, use3, ◌∵◌, !, qed, done, RattleType, mem, cell_at, Is, shows, MutRef}
use Rattle.walks.proofs.Names.{Body, ◌≡◌, only, fsep, updating, by, opens, closes, owned, peeks, spelt, fpack}
use mir.Syntax.{Lifetime}
use mir.Val.{has_ty, WT}
use lib.Dec.{T as Holds}
use types.Kit.{mean, check, now as at_once}
use denote.Memory.{part_of}
use denote.Lend.{lends_ref, ref_back}
use denote.Struct.Laws as LL
use Rattle.building.specs.declared.function_state.FunctionState.{FunctionState}
use Rattle.building.specs.contracts.function_state.FunctionState as T
use Rattle.building.proofs.function_state.FunctionState.TheLaws as T'

abbrev pub R : RattleType
R = T.the_row

abbrev pub val : FunctionState → Val
val = LL.val T.the_type T'.the_laws

-- each field is within its type
abbrev pub Fits : FunctionState → Type 0
Fits h = Is R h (val h ∷ [])

pub spelled : (h : FunctionState) (w : Val) → Is R h (w ∷ []) → Fits h
spelled h w is = LL.owes T.the_type T'.the_laws h (LL.owed T.the_type T'.the_laws h _ is)

-- the machine value is that one
pub is_val : (h : FunctionState) (w : Val) → Is R h (w ∷ []) → w ≡ val h
is_val h w is = ap only (LL.tells T.the_type T'.the_laws h _ is)

-- it has the struct's MIR type
pub typed : {M : Type 1} {𝓤 : Ura M} (𝓛 : Logic 𝓤) (h : FunctionState) → Fits h → Holds (has_ty T'.mir (val h)) × WT (val h)
typed 𝓛 h fits = ((LL.lawful T.the_type T'.the_laws 𝓛).typed h _ fits).0

-- the state at (b, o), under a name
abbrev pub at : GName → ℕ → ℕ → FunctionState → MutBor FunctionState
at γ b o h = record { ref_ptr = (b, o); ghost_name = γ; now = h }

-- what is had beside the cell while the borrow is open
abbrev pub Open : {M : Type 1} {𝓤 : Ura M} → Lft → Share → GName → ℕ → ℕ → FunctionState → List (Item 𝓤) → List (Item 𝓤)
Open κ q γ b o h Γ = ‵ (fobor κ q (Body (mem R) b o γ)) ∷ ‵ (fobs γ (R.coded.code h)) ∷ ‵ (fauth γ (R.coded.code h)) ∷ Γ

module _ {M : Type 1} {𝓤 : Ura M} {𝓛 : Logic 𝓤} {K : Type 0} {Γ : List (Item 𝓤)} {G : Goal 𝓤 𝓛.H} where
  -- a state is plain data: what it owns is had for nothing
  pub own_state : K → (h : FunctionState) → Fits h → Step K 𝓛 (‵ (R.own_val h (val h ∷ [])) ∷ Γ) G Γ G
  own_state t h fits = owned t R (Is R) (LL.makes T.the_type T'.the_plain 𝓛) h _ fits

module _ {M : Type 1} {𝓤 : Ura M} {𝓛 : Logic 𝓤} {K : Type 0} {Γ : List (Item 𝓤)} {G : Goal 𝓤 𝓛.H} where
  pub opened : K → Soaks G → (ℓ : Lifetime) (κ : Lft) (q : Share) (γ : GName) (b o : ℕ) (h : FunctionState)
      → (Fits h → Seq K 𝓛 (‵ (fat full_share T'.mir b o (val h)) ∷ Open κ q γ b o h Γ) G)
      → Seq K 𝓛 (‵ ((MutRef ℓ κ R).own_val (at γ b o h) (vptr b o ∷ [])) ∷ ‵ (flft κ q) ∷ Γ) G
  opened t z ℓ κ q γ b o h k =
      fsplit3 t $ drop t $ opens t z R {h = h} b o (λ vs.
      spelt t R (Is R) (shows 𝓛 R) (LL.vals T.the_type T'.the_laws) (LL.tells T.the_type T'.the_laws) full_share h vs b o $
      use1 𝓛 (‵ (fat full_share T'.mir b o (val h))) (𝓛.laws.raw_at full_share T'.mir b o (val h)) $
      move t (1 ∷ []) $ peeks t R (Is R) (shows 𝓛 R) h (val h ∷ []) (λ fits. drop t $ k fits))

  pub closed : K → Soaks G → (ℓ : Lifetime) (κ : Lft) (q : Share) (γ : GName) (b o : ℕ) (h h' : FunctionState) → Fits h'
      → Step K 𝓛 (‵ ((MutRef ℓ κ R).own_val (at γ b o h') (vptr b o ∷ [])) ∷ ‵ (flft κ q) ∷ Γ) G (‵ (fat full_share T'.mir b o (val h')) ∷ Open κ q γ b o h Γ) G
  closed t z ℓ κ q γ b o h h' fits = step (λ s.
      use1 𝓛 (‵ (cell_at full_share R.mir (val h' ∷ []) b o)) (𝓛.laws.at_raw full_share T'.mir b o (val h')) $
      own_state t h' fits $ move t (1 ∷ 0 ∷ []) $ closes t z R h' (val h' ∷ []) b o $
      feq_i t (List Val) (vptr b o ∷ []) (vptr b o ∷ []) refl $ fjoin3 t $ s)

module _ {M : Type 1} {𝓤 : Ura M} (𝓛 : Logic 𝓤) where
  -- a local that holds a state is lent as the `&κ mut`, under a new name
  open 𝓛 use {A}

  abbrev pub Lent : Lifetime → Lft → ℕ → FunctionState → GName → Item 𝓤
  Lent ℓ κ l h δ = ‵ ((MutRef ℓ κ R).own_val (at δ l 0 h) (vptr l 0 ∷ [])) ⊛ ‵ (flent κ (Body (mem R) l 0 δ))

  pub lends : (ℓ : Lifetime) (κ : Lft) (l : ℕ) (h : FunctionState) → Fits h
      → ent 𝓤 (sem 𝓛 (fat full_share T'.mir l 0 (val h))) (mean 𝓛 (later (some (Lent ℓ κ l h))))
  unfolding part_of
  lends ℓ κ l h fits =
      qed 𝓛 (‵ (fat full_share T'.mir l 0 (val h)) ∷ []) ∵
      use1 𝓛 (‵ (cell_at full_share R.mir (val h ∷ []) l 0)) (𝓛.laws.at_raw full_share T'.mir l 0 (val h)) $
      own_state ! h fits $ move ! (1 ∷ 0 ∷ []) $ fjoin ! $
      fpack ! (List Val) (λ us. fsep (cell_at full_share R.mir us l 0) (R.own_val h us)) (val h ∷ []) $ by ! (lends_ref 𝓛 R ℓ κ h l 0)

  -- once the lifetime is over it holds the last state
  abbrev pub Back : ℕ → FunctionState → Item 𝓤
  Back l h = given (Fits h) (‵ (fat full_share T'.mir l 0 (val h)))

  pub back : (κ : Lft) (δ : GName) (l : ℕ) (h : FunctionState)
      → ent 𝓤 (sep 𝓤 (A.dead κ) (sep 𝓤 (A.lent κ (Body (mem R) l 0 δ)) (A.res δ (R.coded.code h)))) (mean 𝓛 (later (Back l h)))
  unfolding part_of
  back κ δ l h =
      qed 𝓛 (‵ (fdead κ) ∷ ‵ (flent κ (Body (mem R) l 0 δ)) ∷ ‵ (fres δ (R.coded.code h)) ∷ []) ∵ updating ! $
      use3 𝓛 (later (‵ ((mem R).own_at h l 0))) (ref_back 𝓛 R κ δ h l 0) $ await ! tt $ fpick ! (λ vs. fsplit ! $
      spelt ! R (Is R) (shows 𝓛 R) (LL.vals T.the_type T'.the_laws) (LL.tells T.the_type T'.the_laws) full_share h vs l 0 $
      use1 𝓛 (‵ (fat full_share T'.mir l 0 (val h))) (𝓛.laws.raw_at full_share T'.mir l 0 (val h)) $
      move ! (1 ∷ []) $ peeks ! R (Is R) (shows 𝓛 R) h (val h ∷ []) (λ fits. drop ! $ at_once ! $ check ! fits $ done !))
