-- What stands in one of two lists stands in both together.
use Rattle.std.proofs.Common.{List, [], ◌∷◌, ◌++◌, inl, inr}
use Rattle.law_log.specs.Trace.{IsIn}

pub in_left : {X : Type 0} (it : X) (xs ys : List X) → IsIn it xs → IsIn it (xs ++ ys)
in_left it [] ys is_in = absurd is_in
in_left it (x ∷ xs) ys (inl same) = inl same
in_left it (x ∷ xs) ys (inr more) = inr (in_left it xs ys more)

pub in_right : {X : Type 0} (it : X) (xs ys : List X) → IsIn it ys → IsIn it (xs ++ ys)
in_right it [] ys is_in = is_in
in_right it (x ∷ xs) ys is_in = inr (in_right it xs ys is_in)
