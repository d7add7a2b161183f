-- Quiet stretches follow each other.
use Rattle.std.proofs.Common.{◌≡◌, inl, inr, ⊎_elim, ℕ, ◌≤◌, List, refl, ◌∙◌, arith}
use Rattle.std.specs.Prelude.{◌↔◌}
use Rattle.fkv_disk.specs.Device.{LeavesNoMore, Elapses}
use Rattle.fkv_disk.specs.Quiet.{IsQuiet}

module _ {D : Type 0} (honest : D → Type 0) (seen : D → List ℕ) (may_leave : D → List ℕ → Type 0) (moment : D → ℕ)
    (left_since : D → ℕ → List ℕ → Type 0) (failed : D → ℕ) where
  -- one call
  pub quiet_call : (old new : D) → (honest old ↔ honest new) → (honest old → seen new ≡ seen old) → (honest old → LeavesNoMore (may_leave old) (may_leave new))
      → (honest old → Elapses (moment old) (moment new) (left_since old) (left_since new) (may_leave new)) → failed old ≤ failed new
      → IsQuiet honest seen may_leave moment left_since failed old new
  quiet_call old new premise same no_more time later = record {
    premise = premise;
    same_bytes = same;
    leaves_no_more = no_more;
    at_each_moment = λ claim. record {
      later = (time claim).later;
      nothing_else = λ t image le left. ⊎_elim inl (λ now. inr (no_more claim image now)) ((time claim).nothing_else t image le left);
      keeps = (time claim).keeps;
    };
    no_fewer_failures = later;
  }

  -- no call
  pub quiet_still : (old : D) → IsQuiet honest seen may_leave moment left_since failed old old
  quiet_still old = record {
    premise = (λ p. p, λ p. p);
    same_bytes = λ claim. refl;
    leaves_no_more = λ claim image left. left;
    at_each_moment = λ claim. record { later = omega arith; nothing_else = λ t image le left. inl left; keeps = λ t image le left. left };
    no_fewer_failures = omega arith;
  }

  -- one stretch after another
  pub quiet_on : (old mid new : D) → IsQuiet honest seen may_leave moment left_since failed old mid → IsQuiet honest seen may_leave moment left_since failed mid new
      → IsQuiet honest seen may_leave moment left_since failed old new
  quiet_on old mid new first second = record {
    premise = (λ p. second.premise.0 (first.premise.0 p), λ p. first.premise.1 (second.premise.1 p));
    same_bytes = λ claim. second.same_bytes (first.premise.0 claim) ∙ first.same_bytes claim;
    leaves_no_more = λ claim image left. first.leaves_no_more claim image (second.leaves_no_more (first.premise.0 claim) image left);
    at_each_moment = λ claim.
        let was = first.at_each_moment claim in
        let then = second.at_each_moment (first.premise.0 claim) in
        record {
          later = omega (arith, was.later, then.later);
          nothing_else = λ t image le left. ⊎_elim (was.nothing_else t image le) (λ now. inr (first.leaves_no_more claim image now)) (then.nothing_else t image (omega (arith, le, was.later)) left);
          keeps = λ t image le left. then.keeps t image (omega (arith, le, was.later)) (was.keeps t image le left);
        };
    no_fewer_failures = omega (arith, first.no_fewer_failures, second.no_fewer_failures);
  }
