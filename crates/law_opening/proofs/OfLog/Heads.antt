-- The entries of an opened store's index lead to where the chains begin.
use Rattle.std.proofs.Common.{◌≡◌, ◌≢◌, ◌⊎◌, inl, inr, ℕ, ◌+◌, ◌*◌, ◌^◌, ◌<◌, Bool, true, false, List, [], ◌∷◌, refl, sym, ap, subst, ◌∙◌, arith}
use Rattle.std.specs.Prelude.{◌==◌, Contains, nat_eq}
use Rattle.std.proofs.lemmas.Bool.Decides.{nat_tests}
use Rattle.std.proofs.lemmas.List.Elements.{All-nil, All-cons}
use Rattle.fkv_entries.specs.declared.home_entries.HomeEntry.{HomeEntry}
use Rattle.fkv_filling.specs.OpeningIndex.{IsNoHome, IsOpeningIndex, home, opening_lists}
use Rattle.fkv_index.specs.Entries.{entry_at}
use Rattle.fkv_index.specs.declared.homes.Home.{Home}
use Rattle.law_paper.specs.Below.fkv_opening.Entries.{entry_home}
use Rattle.law_paper.specs.Below.fkv_opening.Opened.{IsStoreOf}
use Rattle.law_paper.specs.Below.fkv_opening.TheOpened.{Opened}
use Rattle.law_log.specs.Chains.{head_of}
use Rattle.law_paper.specs.Below.fkv_pairs.Pairs.{log_of_store}
use Rattle.law_paper.proofs.Below.fkv_room.Shown.{in_head, in_tail}
use Rattle.law_refine.specs.Below.fkv_world.World.{Now}
use Rattle.law_refine.specs.Events.GhostEvents.{home_number}
use Rattle.law_refine.specs.Heads.Heads.{LeadToHeads, entry_to}
use Rattle.law_opening.specs.Log.OpeningLog.{chain_of, entry_of, opening_log}
use Rattle.law_opening.proofs.OfLog.Counted.{chain_head}
use Rattle.law_opening.proofs.OfLog.Reaching.{IsOfStore}

-- the entry of a home in the list, or that there is none
pub record IsItsEntry (entries : List HomeEntry) (its_home : Home) : Type 0 where
  pub its : HomeEntry
  pub listed : Contains entries its
  pub of_home : home its ≡ its_home
  pub leads : (let x = its in entry_of entries (home_number its_home) ≡ x.entry.addr.0)

abbrev HasOne : List HomeEntry → Home → Type 0
HasOne entries its_home = IsItsEntry entries its_home ⊎ ((entry_of entries (home_number its_home) ≡ 0) × IsNoHome entries its_home)

home_of_pair : ℕ × ℕ → Home
home_of_pair p = record { bucket = p.0; tag = p.1 }

-- a home's number tells it
same_home : (x : HomeEntry) (its_home : Home) → its_home.tag < 2 ^ 15 → entry_home x ≡ home_number its_home → home x ≡ its_home
unfolding home_of_pair
same_home x its_home fits is =
    let tag = x.entry.tag_fits in
    let bucket : x.bucket ≡ its_home.bucket = omega (arith, fits, is, tag) in
    let its_tag : x.entry.tag ≡ its_home.tag = omega (arith, is, bucket) in
    let both : ◌≡◌ {A = ℕ × ℕ} (x.bucket, x.entry.tag) (its_home.bucket, its_home.tag) = cc in
    ap home_of_pair both

has_one : (entries : List HomeEntry) (its_home : Home) → its_home.tag < 2 ^ 15 → HasOne entries its_home
unfolding entry_of
has_one [] its_home fits = inr (refl, All-nil (λ (y : HomeEntry). home y ≡ its_home → ⊥))
has_one (x ∷ entries) its_home fits = by_test (nat_eq (entry_home x) (home_number its_home)) refl (has_one entries its_home fits)
  where
    by_test : (t : Bool) → nat_eq (entry_home x) (home_number its_home) ≡ t → HasOne entries its_home → HasOne (x ∷ entries) its_home
    by_test true is rest =
        let same : entry_home x ≡ home_number its_home = grind (arith, nat_tests) in
        inl (record { its = x; listed = in_head x x entries refl; of_home = same_home x its_home fits same; leads = rw is refl })
    by_test false is (inl found) = inl (record { its = found.its; listed = in_tail x found.its entries found.listed; of_home = found.of_home; leads = rw is found.leads })
    by_test false is (inr none) =
        let other : entry_home x ≢ home_number its_home = grind (arith, nat_tests) in
        inr (rw is none.0, All-cons (λ (y : HomeEntry). home y ≡ its_home → ⊥) x entries (λ same. other (ap (λ (h : Home). home_number h) same)) none.1)

entry_none : (addr tag : ℕ) → addr ≡ 0 → entry_to addr tag ≡ 0
entry_none addr tag none = rw none refl

entry_some : (addr tag : ℕ) → 0 < addr → entry_to addr tag ≡ addr + tag * 2 ^ 48
entry_some addr tag some = let off : (addr == 0) ≡ false = grind (arith, nat_tests) in rw off refl

pub lead_to_heads : (image : List ℕ) (o : Opened) (store : IsStoreOf image o) → IsOfStore (log_of_store image o store) o.entries.items → (n : Now) → IsOpeningIndex n.places o.entries.items n.words → LeadToHeads n (opening_lists o.entries.items) (opening_log image o)
lead_to_heads image o store its n index its_home there = elim (has_one o.entries.items its_home there.fits) [
  | inl found ↦
      let x : HomeEntry = found.its in
      let head : head_of (chain_of image o (home_number its_home)) ≡ x.entry.addr.0 = chain_head image o store its (home_number its_home) ∙ found.leads in
      let tag : x.entry.tag ≡ its_home.tag = ap (λ (h : Home). h.tag) found.of_home in
      subst (λ (h : Home). entry_at n.places n.words (opening_lists o.entries.items) h ≡ x.entry.addr.0 + x.entry.tag * 2 ^ 48) found.of_home (index.has_entries x found.listed)
      ∙ sym (entry_some x.entry.addr.0 x.entry.tag x.entry.some_addr)
      ∙ ap (λ (t : ℕ). entry_to x.entry.addr.0 t) tag
      ∙ ap (λ (a : ℕ). entry_to a its_home.tag) (sym head)
  | inr none ↦
      let head : head_of (chain_of image o (home_number its_home)) ≡ 0 = chain_head image o store its (home_number its_home) ∙ none.0 in
      index.no_others its_home there.few none.1 ∙ sym (entry_none _ its_home.tag head)
]
