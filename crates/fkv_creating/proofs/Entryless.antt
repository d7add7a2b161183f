-- A new store has no entries, and no record of it is lost.
use Rattle.std.proofs.Common.{◌≡◌, ℕ, zero, suc, ◌+◌, List, [], false, refl, sym, ◌∙◌, ap, subst, arith}
use Rattle.std.specs.Prelude.{Contains}
use Rattle.fkv_base.specs.declared.shapes.Shape.{Shape}
use Rattle.fkv_entries.specs.declared.home_entries.HomeEntry.{HomeEntry}
use Rattle.fkv_entries.specs.Room.{HaveRoom, taken_below}
use Rattle.fkv_newest.specs.declared.newest_slots.Newest.{Newest}
use Rattle.fkv_newest.specs.Newest.{IsNewestOf}
use Rattle.fkv_opening.specs.Entries.{AreEntries}
use Rattle.fkv_opening.specs.Faults.{HasCheckpoint, IsSound, log_of}
use Rattle.fkv_opening.specs.Lost.{AreInHand}
use Rattle.fkv_record.specs.declared.lost_ranges.LostRange.{LostRange}
use Rattle.fkv_creating.specs.Created.{IsNew}
use Rattle.fkv_creating.proofs.Sound.{no_triples, has_scan, has_chains, has_room, unreached, empty}

none_taken : (buckets : ℕ) → taken_below [] buckets ≡ 0
unfolding taken_below
none_taken zero = refl
none_taken (suc buckets) = ap (λ (n : ℕ). n + 0) (none_taken buckets)

pub no_entry_room : (buckets overflow : ℕ) (entries : List HomeEntry) → entries ≡ [] → HaveRoom buckets overflow entries
no_entry_room buckets overflow entries none = subst (λ xs. HaveRoom buckets overflow xs) (sym none) (record {
  homes = record { once = λ i j d above in_list. absurd (omega (arith, in_list)); there = λ k d below. absurd (omega (arith, below)) };
  enough = omega (arith, none_taken buckets);
})

none_in : (p : ℕ × ℕ) → Contains [] p → ⊥
none_in p is = omega (arith, is.1)

module _ (image : List ℕ) (shape : Shape) (n : Newest) (new : IsNew shape n) where
  pub is_checkpoint : IsNewestOf image n → HasCheckpoint image n []
  is_checkpoint told = record { newest = told; stored = no_triples image shape n new; apart = λ i j x y one. absurd (cc) }

  pub is_sound : IsSound (log_of image n [])
  is_sound = record { scan = has_scan image shape n new; chains = has_chains image shape n new; room = has_room image shape n new }

  pub no_entries : (entries : List HomeEntry) → entries ≡ [] → AreEntries (log_of image n []) entries
  no_entries entries none = subst (λ xs. AreEntries (log_of image n []) xs) (sym none) (record {
    all = λ its_home a. ((λ is. absurd (none_in (its_home, a) is)), (λ entry. absurd (unreached image shape n new a entry.counts.1.reached)));
    ascending = λ k below. absurd (omega (arith, below));
  })

  pub none_in_hand : (ranges : List LostRange) → ranges ≡ [] → AreInHand (log_of image n []) ranges
  none_in_hand ranges none = record {
    left_out = false;
    tells = λ b y from below. absurd (omega (arith, from, below, empty image shape n new));
    extends = none ∙ sym new.slot.lost;
  }
