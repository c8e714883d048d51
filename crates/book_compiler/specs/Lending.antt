-- What a call of a closure does that is lent a part of the memory and a value beside it
-- Private contracts alone cite this file: whoever reads the promises need not believe it
use Rattle.std.specs.Prelude.{◌≡◌}
use Rattle.std.specs.Borrow.{MutBor}
use Rattle.std.specs.Fn.{Once}

-- at a `&mut` to x and one to s, it may give r and leave x' and s' there
pub record ReturnsAtBoth {F T S R : Type 0} (g : Once F (MutBor T × (MutBor S × Unit {0})) (R × (MutBor T × (MutBor S × Unit {0})))) (f : F) (x : T) (s : S)
    (r : R) (x' : T) (s' : S) : Type 0 where
  pub shown : MutBor T
  pub shows : shown.now ≡ x
  pub beside : MutBor S
  pub stands : beside.now ≡ s
  pub left : MutBor T
  pub after : MutBor S
  pub met : g.post f (shown, (beside, tt)) (r, (left, (after, tt)))
  pub leaves : left.now ≡ x'
  pub becomes : after.now ≡ s'
