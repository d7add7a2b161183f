-- No stage of recovery finds a fault in a new store.
use Rattle.std.proofs.Common.{◌≡◌, ℕ, zero, suc, ◌+◌, ◌^◌, ◌≤◌, List, [], refl, sym, ap, subst, arith}
use Rattle.std.specs.Prelude.{Some, slice_get}
use Rattle.fkv_base.specs.declared.shapes.Shape.{Shape}
use Rattle.fkv_newest.specs.declared.newest_slots.Newest.{Newest}
use Rattle.fkv_scan.specs.Checkpoint.{AreTriples, checkpoint_in}
use Rattle.fkv_scan.specs.Log.{Log, log_in, HasTriple}
use Rattle.fkv_scan.specs.Scan.{HasScan}
use Rattle.fkv_chains.specs.Reached.{Reached, in_scan, led_to, linked}
use Rattle.fkv_chains.specs.Chains.{HasChains}
use Rattle.fkv_room.specs.Room.{HasRoom, taken}
use Rattle.fkv_creating.specs.Created.{IsNew}

no_triple : (log : Log) (its_home addr : ℕ) → log.triples ≡ [] → HasTriple log its_home addr → ⊥
no_triple log its_home addr none has = none_at (subst (λ ts. ◌≡◌ (slice_get ts has.place) (Some has.triple)) none has.stands)
  where
    none_at : slice_get [] has.place ≡ Some has.triple → ⊥
    none_at e = cc

-- where there are no triples and nothing to scan, nothing is reached
pub none_reached : (log : Log) (a : ℕ) → log.triples ≡ [] → log.tail ≤ log.start → Reached log a → ⊥
none_reached log a none empty (in_scan _ x from below stands valid) = omega (arith, from, below, empty)
none_reached log a none empty (led_to its_home _ has) = no_triple log its_home a none has
none_reached log a none empty (linked b _ x reached stands same some) = none_reached log b none empty reached

no_taken : (buckets : ℕ) → taken [] buckets ≡ 0
no_taken zero = refl
no_taken (suc buckets) = ap (λ (n : ℕ). n + 0) (no_taken buckets)

module _ (image : List ℕ) (shape : Shape) (n : Newest) (new : IsNew shape n) where
  log : Log
  log = log_in image n.shape n.slot []

  pub empty : n.slot.end.0 ≤ n.slot.first.0
  empty = omega (arith, new.slot.end, new.slot.first)

  pub unreached : (a : ℕ) → Reached (log_in image n.shape n.slot []) a → ⊥
  unreached a reached = none_reached (log_in image n.shape n.slot []) a refl empty reached

  pub no_triples : AreTriples (checkpoint_in image n.shape n.slot) []
  no_triples = record { many = sym new.slot.triples; each = λ i x e. absurd (cc) }

  pub has_scan : HasScan (log_in image n.shape n.slot [])
  has_scan = record { records = λ c from below. absurd (omega (arith, from, below, empty)); triples = λ i triple e. absurd (cc) }

  pub has_chains : HasChains (log_in image n.shape n.slot [])
  has_chains = λ a reached below. absurd (unreached a reached)

  pub has_room : HasRoom (log_in image n.shape n.slot [])
  has_room = record {
    homes = [];
    are_homes = record { once = λ i j d above in_list same. absurd (omega (arith, in_list)); all = λ its_home. ((λ has. absurd (omega (arith, has.1))), (λ entry. absurd (unreached entry.0 entry.1.counts.1.reached))) };
    enough = omega (arith, no_taken (2 ^ n.shape.bucket_bits));
  }
