-- One more operation behind those that were run.
use Rattle.std.proofs.Common.{◌≡◌, ℕ, ◌+◌, ◌<◌, ◌≤◌, refl, sym, ap, ◌∙◌, subst, List, [], ◌∷◌, ◌++◌, length, take, get_or}
use Rattle.std.proofs.lemmas.List.{take_all, take_more}
use Rattle.fkv_map.specs.declared.operations.Call.TheVariants as call
use Rattle.fkv_map.specs.declared.operations.Op.{Op}
use Rattle.fkv_session.specs.declared.answers.Told.{Told}
use Rattle.law_threads.specs.Below.fkv_world.Runs.{World}
use Rattle.fkv_threads.specs.Calling.{HaveRun, IsToldCallOf}
use Rattle.fkv_threads.specs.Models.{Sitting}

module _ {K : Type 0} (at : K → World) where
  one_more : (s between s' : Sitting K) (ops : List Op) (told : List Told) (op : Op) (its : Told) → HaveRun at s ops told between → IsToldCallOf at between (call.Op op) its s' → HaveRun at s (ops ++ op ∷ []) (told ++ its ∷ []) s'
  one_more s between s' [] [] op its ran last = (s', subst (λ (z : Sitting K). IsToldCallOf at z (call.Op op) its s') (sym ran) last, refl)
  one_more s between s' (first ∷ ops) (its_told ∷ told) op its ran last = (ran.0, ran.1, one_more ran.0 between s' ops told op its ran.2 last)
  one_more s between s' [] (its_told ∷ told) op its ran last = absurd ran
  one_more s between s' (first ∷ ops) [] op its ran last = absurd ran

  -- so it is of a list of operations, up to the next place
  pub one_further : (s between s' : Sitting K) (ops : List Op) (told told' : List Told) (at_op : ℕ) (op other : Op) (its : Told) → at_op < length ops → op ≡ get_or ops at_op other → take (at_op + 1) told' ≡ take at_op told ++ its ∷ []
      → HaveRun at s (take at_op ops) (take at_op told) between → IsToldCallOf at between (call.Op op) its s' → HaveRun at s (take (at_op + 1) ops) (take (at_op + 1) told') s'
  one_further s between s' ops told told' at_op op other its within same written ran last =
      let upto : take (at_op + 1) ops ≡ take at_op ops ++ op ∷ [] = take_more ops at_op other within ∙ ap (λ (o : Op). take at_op ops ++ o ∷ []) (sym same) in
      rw (upto, written) (one_more s between s' (take at_op ops) (take at_op told) op its ran last)

  -- all of the operations have run at the end
  pub all_run : (s s' : Sitting K) (ops : List Op) (told : List Told) (at_op : ℕ) → length ops ≤ at_op → length told ≡ length ops → HaveRun at s (take at_op ops) (take at_op told) s' → HaveRun at s ops told s'
  all_run s s' ops told at_op over same ran =
      let told_over : length told ≤ at_op = subst (λ (n : ℕ). n ≤ at_op) (sym same) over in
      subst (λ (l : List Told). HaveRun at s ops l s') (take_all at_op told told_over) (subst (λ (l : List Op). HaveRun at s l (take at_op told) s') (take_all at_op ops over) ran)
