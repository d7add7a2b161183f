-- How many calls are made where the first is refused, or where the first two stages find a fault.
use Rattle.std.proofs.Common.{◌≡◌, ℕ, Bool, List, ◌∙◌, ap}
use Rattle.std.specs.Prelude.{Result, Ok, Err}
use Rattle.fkv_base.specs.declared.faults.Fault.{Fault}
use Rattle.fkv_base.specs.declared.faults.Fault.TheVariants.{NotAStore, Damaged, Device}
use Rattle.fkv_base.specs.declared.faults.Damage.TheVariants.{Manifest}
use Rattle.fkv_disk.specs.Device.{after}
use Rattle.fkv_words.specs.Fields.{SpellsApart}
use Rattle.fkv_record.specs.Layout.{shape_bytes}
use Rattle.fkv_newest.specs.declared.newest_slots.Newest.{Newest}
use Rattle.fkv_newest.specs.Counted.{MakesTwoCalls}
use Rattle.fkv_newest.specs.Newest.{IsNewestOf}
use Rattle.fkv_newest.proofs.Shown.{no_fault as no_newest_fault}
use Rattle.fkv_opening.specs.Faults.{of_scan, of_chains, of_room, IsFaultOf, of_newest, of_triples, of_log, IsRefused}
use Rattle.fkv_opening.specs.Calls.{EndsAtFirst, EndsAtFront}

same_fault : (e f : Fault) (T U : Type 0) → ◌≡◌ {A = Result T Fault} (Err e) (Err f) → ◌≡◌ {A = Result U Fault} (Err e) (Err f)
same_fault e f T U is = cc

-- the newest slot wasn't told
pub ends_there : {T U : Type 0} (before now : ℕ → Bool) (why : Fault) → MakesTwoCalls {T = T} before now (Err why) → EndsAtFirst {T = U} before now (Err why)
ends_there before now why calls refused =
    let first = calls.first refused in
    (calls.counted.counted ∙ ap (λ n. after n before) first.0, same_fault why Device _ _ first.1)

passed : {T : Type 0} (x : T) → ◌≡◌ {A = Result T Fault} (Ok x) (Err Device) → ⊥
passed x is = cc

-- it was told
pub never_refused : {T U : Type 0} (before mid now : ℕ → Bool) (x : T) (result : Result U Fault) → MakesTwoCalls {T = T} before mid (Ok x) → EndsAtFirst before now result
never_refused before mid now x result calls refused = absurd (passed x (calls.first refused).1)

passed_off : {T : Type 0} (why : Fault) → (why ≡ Device → ⊥) → ◌≡◌ {A = Result T Fault} (Err why) (Err Device) → ⊥
passed_off why off is = off (let same : why ≡ Device = cc in same)

two_calls : {T : Type 0} (before now : ℕ → Bool) (why : Fault) → (why ≡ Device → ⊥) → MakesTwoCalls {T = T} before now (Err why) → now ≡ after 2 before
two_calls before now why off calls = calls.counted.counted ∙ ap (λ n. after n before) (calls.both (passed_off why off))

-- the first two stages found it
pub front_there : {T : Type 0} (U : Type 0) (before now : ℕ → Bool) (why : Fault) → MakesTwoCalls {T = T} before now (Err why) → EndsAtFront {T = U} before now (Err why)
front_there U before now NotAStore calls = two_calls before now NotAStore (λ is. cc) calls
front_there U before now (Damaged Manifest place) calls = two_calls before now (Damaged Manifest place) (λ is. cc) calls
front_there U before now other calls = tt

-- the later ones name no such fault
module _ (apart : SpellsApart shape_bytes) (image : List ℕ) (n : Newest) (told : IsNewestOf image n) where
  a_store : IsFaultOf image NotAStore → ⊥
  a_store (of_newest found) = no_newest_fault apart image n NotAStore told found
  a_store (of_triples m also found) = found
  a_store (of_log m ts has (of_scan found)) = found
  a_store (of_log m ts has (of_chains scan found)) = found
  a_store (of_log m ts has (of_room scan chains found)) = found

  a_slot : (place : ℕ) → IsFaultOf image (Damaged Manifest place) → ⊥
  a_slot place (of_newest found) = no_newest_fault apart image n (Damaged Manifest place) told found
  a_slot place (of_triples m also found) = found
  a_slot place (of_log m ts has (of_scan found)) = found
  a_slot place (of_log m ts has (of_chains scan found)) = found
  a_slot place (of_log m ts has (of_room scan chains found)) = found

  pub front_behind : (U : Type 0) (before now : ℕ → Bool) (failed fails : ℕ) (premise : Type 0) → premise → (why : Fault) → IsRefused failed fails premise (IsFaultOf image) why
      → EndsAtFront {T = U} before now (Err why)
  front_behind U before now failed fails premise p NotAStore found = absurd (a_store (found p))
  front_behind U before now failed fails premise p (Damaged Manifest place) found = absurd (a_slot place (found p))
  front_behind U before now failed fails premise p other found = tt
