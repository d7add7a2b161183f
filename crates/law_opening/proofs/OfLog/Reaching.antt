-- What is reached in the image of a store lies below the log's end, and leads downwards.
use Rattle.std.proofs.Common.{◌≡◌, ◌≢◌, ◌⊎◌, inl, inr, ⊎_elim, ℕ, zero, suc, ◌+◌, ◌<◌, ◌≤◌, List, [], ◌∷◌, refl, sym, ap, ◌∙◌, arith, map, cond}
use Rattle.std.specs.Prelude.{Contains, nat_eq, true, false, Bool}
use Rattle.std.proofs.lemmas.Bool.{cases_lt}
use Rattle.std.proofs.lemmas.Bool.Decides.{nat_tests}
use Rattle.law_paper.specs.Below.fkv_chains.Chains.{HasChains}
use Rattle.law_paper.specs.Below.fkv_chains.Entries.{Counts, IsEntry}
use Rattle.law_paper.specs.Below.fkv_chains.Reached.{Reached}
use Rattle.fkv_entries.specs.declared.home_entries.HomeEntry.{HomeEntry}
use Rattle.law_paper.specs.Below.fkv_opening.Entries.{entry_home, place_of, AreEntries}
use Rattle.law_paper.specs.Below.fkv_pairs.Pairs.{IsChainOf}
use Rattle.fkv_record.specs.Layout.{record_bytes}
use Rattle.fkv_record.specs.declared.records.Record.{Record}
use Rattle.law_paper.proofs.Below.fkv_room.Shown.{in_rest, in_head, in_tail}
use Rattle.law_paper.proofs.Reached.{leads_down, reached_low as below_end}
use Rattle.law_paper.specs.Below.fkv_scan.Log.{Log, AreBelow}
use Rattle.law_paper.specs.Below.fkv_scan.Records.{Stands, next_of}
use Rattle.law_paper.specs.Below.fkv_scan.Scan.{Has, HasScan}
use Rattle.fkv_words.specs.Fields.{SpellsApart}
use Rattle.law_opening.specs.Log.OpeningLog.{entry_of}

-- what is used of the log of a store, with its entries
pub record IsOfStore (log : Log) (entries : List HomeEntry) : Type 0 where
  pub apart : SpellsApart record_bytes
  pub below : AreBelow log.tail log.triples
  pub scan : HasScan log
  pub chains : HasChains log
  pub are : AreEntries log entries
  pub chain : (its_home entry : ℕ) → IsEntry log its_home entry → IsChainOf log its_home entry

module _ (log : Log) (entries : List HomeEntry) (store : IsOfStore log entries) where
  pub one : (a : ℕ) (x y : Record) → Stands log a x → Stands log a y → x ≡ y
  one a x y first second = store.apart x y (first ∙ sym second)

  pub reached_low : (a : ℕ) → Reached log a → a < log.tail
  reached_low = below_end store.apart store.scan store.chains store.below

  pub reached_falls : (a : ℕ) (x : Record) → Reached log a → Stands log a x → next_of log x < a
  reached_falls a x reached = leads_down store.apart store.scan store.chains store.below a x (reached_low a reached) reached

  -- ---- a home with a record that counts has an entry
  -- none counts from so many addresses below the end up
  none_from : (its_home : ℕ) → ((a : ℕ) → IsEntry log its_home a → ⊥) → (n b : ℕ) → log.tail ≤ b + n → Has (Counts log its_home) b → ⊥
  none_from its_home none zero b high has = (let low = reached_low b has.1.reached in absurd (omega (arith, low, high)))
  none_from its_home none (suc n) b high has = none b (record {
    counts = has;
    greatest = λ c y counts. ⊎_elim
        (λ above. absurd (none_from its_home none n c (omega (arith, above, high)) (y, counts)))
        (λ most. most)
        (cases_lt b c);
  })

  pub none_counts : (its_home : ℕ) → ((a : ℕ) → IsEntry log its_home a → ⊥) → (b : ℕ) → Has (Counts log its_home) b → ⊥
  none_counts its_home none b has = none_from its_home none log.tail b (omega arith) has

-- an entry of the list, or that the home has none
abbrev IsListed : List HomeEntry → ℕ → Type 0
IsListed entries its_home = Contains (map place_of entries) (its_home, entry_of entries its_home) ⊎ ((entry_of entries its_home ≡ 0) × ((a : ℕ) → Contains (map place_of entries) (its_home, a) → ⊥))

is_listed : (entries : List HomeEntry) (its_home : ℕ) → IsListed entries its_home
unfolding entry_of
is_listed [] its_home = inr (refl, λ a has. omega (arith, has.1))
is_listed (x ∷ entries) its_home = by_test (nat_eq (entry_home x) its_home) refl (is_listed entries its_home)
  where
    by_test : (t : Bool) → nat_eq (entry_home x) its_home ≡ t → IsListed entries its_home
        → Contains (map place_of (x ∷ entries)) (its_home, cond t x.entry.addr.0 (entry_of entries its_home))
        ⊎ ((cond t x.entry.addr.0 (entry_of entries its_home) ≡ 0) × ((a : ℕ) → Contains (map place_of (x ∷ entries)) (its_home, a) → ⊥))
    by_test true is rest =
        let same : entry_home x ≡ its_home = grind (arith, nat_tests) in
        inl (in_head (place_of x) (its_home, x.entry.addr.0) (map place_of entries) (ap (λ (h : ℕ). let p : ℕ × ℕ = (h, x.entry.addr.0) in p) same))
    by_test false is (inl found) = inl (in_tail (place_of x) (its_home, entry_of entries its_home) (map place_of entries) found)
    by_test false is (inr none) =
        let other : entry_home x ≢ its_home = grind (arith, nat_tests) in
        inr (none.0, λ a has. ⊎_elim (λ here. other (ap (λ (p : ℕ × ℕ). p.0) here)) (none.1 a) (in_rest (place_of x) (its_home, a) (map place_of entries) has))

-- the chain of a home begins at its entry; or it is empty, and no record counts
abbrev pub HasChain : Log → List HomeEntry → ℕ → Type 0
HasChain log entries its_home = IsEntry log its_home (entry_of entries its_home) ⊎ ((entry_of entries its_home ≡ 0) × ((b : ℕ) → Has (Counts log its_home) b → ⊥))

pub has_chain : (log : Log) (entries : List HomeEntry) → IsOfStore log entries → (its_home : ℕ) → HasChain log entries its_home
has_chain log entries store its_home = elim (is_listed entries its_home) [
  | inl found ↦ inl ((store.are.all its_home (entry_of entries its_home)).0 found)
  | inr none ↦ inr (none.0, none_counts log entries store its_home (λ a entry. none.1 a ((store.are.all its_home a).1 entry)))
]
