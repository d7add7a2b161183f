-- The log has just the records that count, in the chains of their homes.
use Rattle.std.proofs.Common.{◌≡◌, inl, inr, ℕ, ◌<◌, ◌≤◌, Bool, true, false, cond, Some, List, [], refl, sym, ap, subst, ◌∙◌, arith}
use Rattle.fkv_base.specs.declared.numbers.Addr.{Addr}
use Rattle.fkv_base.specs.declared.shapes.Shape.{Shape}
use Rattle.law_paper.specs.Below.fkv_chains.Entries.{Counts, IsEntry}
use Rattle.fkv_disk.specs.Bytes.{bytes_at}
use Rattle.law_paper.specs.Below.fkv_opening.Opened.{IsStoreOf}
use Rattle.law_paper.specs.Below.fkv_opening.TheOpened.{Opened}
use Rattle.law_log.specs.Chains.{Cell, Unborn, Reserved, Published, head_of}
use Rattle.law_log.specs.Enabled.{AreChains, IsLinked, previous_of}
use Rattle.law_log.specs.Trace.{IsIn}
use Rattle.law_paper.specs.Below.fkv_pairs.Pairs.{CountsAtHome, IsChainOf, log_of_store}
use Rattle.fkv_record.specs.Begin.{from_or_none}
use Rattle.fkv_record.specs.Layout.{record_bytes}
use Rattle.law_refine.specs.Below.fkv_ops.Values.{value_of}
use Rattle.fkv_record.specs.Places.{record_place}
use Rattle.fkv_record.specs.declared.records.Record.{Record}
use Rattle.law_paper.specs.Below.fkv_scan.Log.{Log, record_home}
use Rattle.law_paper.specs.Below.fkv_scan.Records.{Stands, next_of}
use Rattle.law_paper.specs.Below.fkv_scan.Scan.{Has}
use Rattle.fkv_words.specs.Fields.{SpellsApart}
use Rattle.law_refine.specs.Events.GhostEvents.{home_in}
use Rattle.law_opening.specs.Log.OpeningLog.{cell_at, chain_down, chain_of, entry_of, is_in, logged_at, opening_log}
use Rattle.law_opening.specs.Log.Records.{cell_of, HasWhatCounts, IsCellOf}
use Rattle.law_paper.proofs.Reached.{reached_begun}
use Rattle.law_opening.proofs.OfLog.Reaching.{IsOfStore, has_chain, one, reached_falls, reached_low}
use Rattle.law_opening.proofs.OfLog.Walking.{AllLead, along_in, down_head, down_in_some, down_linked, down_none, in_along, in_is, is_there}
use Rattle.law_opening.proofs.OfLog.Words.{cell_is, cell_told}

-- the home of a record is that of its key
pub home_is : (bits : ℕ) (x : Record) → record_home bits x ≡ home_in bits x.key.0
unfolding record_home
home_is bits x = refl

abbrev pub ChainsOf : List ℕ → (o : Opened) → Log → Type 0
ChainsOf image o log = (its_home entry : ℕ) → IsEntry log its_home entry → IsChainOf log its_home entry

-- what is used of a store
pub of_store : (image : List ℕ) (o : Opened) (store : IsStoreOf image o) → SpellsApart record_bytes → ChainsOf image o (log_of_store image o store) → IsOfStore (log_of_store image o store) o.entries.items
of_store image o store apart chain = record {
  apart = apart;
  below = λ i x stands. (store.checkpoint.stored.each i x stands).in_log;
  scan = store.sound.scan;
  chains = store.sound.chains;
  are = store.entries;
  chain = chain;
}

same_cell : (c d : Cell) → Published c ≡ Published d → c ≡ d
same_cell c d is = cc

module _ (image : List ℕ) (o : Opened) (store : IsStoreOf image o) (its : IsOfStore (log_of_store image o store) o.entries.items) where
  its_log : Log
  its_log = log_of_store image o store

  leads : ℕ → ℕ
  leads a = let cell = cell_at image o a in cell.previous

  pub its_version : o.number.0 ≡ (let log = log_of_store image o store in log.version)
  its_version = store.tells.number

  its_bits : o.shape.bucket_bits ≡ (let log = log_of_store image o store in log.shape.bucket_bits)
  its_bits = ap (λ (s : Shape). s.bucket_bits) store.tells.shape

  its_tail : o.tail.0 ≡ (let log = log_of_store image o store in log.tail)
  its_tail = ap (λ (a : Addr). a.0) store.tells.tail

  its_begin : o.begin.0 ≡ (let log = log_of_store image o store in log.begin)
  its_begin = ap (λ (a : Addr). a.0) store.tells.begin

  told_is : (x : Record) → cell_told o x ≡ cell_of (log_of_store image o store) x
  told_is x =
      ap (λ (n : ℕ). let c : Cell = record { key = x.key.0; value = value_of x.value; version = n; previous = from_or_none o.begin.0 x.header.previous.0 } in c) its_version
      ∙ ap (λ (b : ℕ). let c : Cell = record { key = x.key.0; value = value_of x.value; version = store.newest.slot.number; previous = from_or_none b x.header.previous.0 } in c) its_begin

  -- the record at an address, in the log's words
  pub here_is : (a : ℕ) (x : Record) → Stands (log_of_store image o store) a x → cell_at image o a ≡ cell_of (log_of_store image o store) x
  here_is a x stands = cell_is image o a x (subst (λ (s : Shape). record_bytes x ≡ bytes_at image (record_place s a) 24) (sym store.tells.shape) stands) ∙ told_is x

  -- its home
  pub at_home : (x : Record) → record_home store.newest.shape.bucket_bits x ≡ home_in o.shape.bucket_bits x.key.0
  at_home x = ap (λ (bits : ℕ). record_home bits x) (sym its_bits) ∙ home_is o.shape.bucket_bits x

  all_lead : (its_home e : ℕ) → IsEntry (log_of_store image o store) its_home e → AllLead (log_of_store image o store) (λ a. let cell = cell_at image o a in cell.previous) e
  all_lead its_home e entry b along =
      let has = ((its.chain its_home e entry).all b).0 along in
      let next : (let cell = cell_at image o b in cell.previous) ≡ next_of (log_of_store image o store) has.0 = ap (λ (cell : Cell). cell.previous) (here_is b has.0 has.1.valid.stands) in
      let falls = reached_falls (log_of_store image o store) o.entries.items its b has.0 has.1.reached has.1.valid.stands in
      record { held = has.0; stands = has.1.valid.stands; its = next; falls = omega (arith, next, falls) }

  entry_low : (its_home e : ℕ) → IsEntry (log_of_store image o store) its_home e → e ≤ o.tail.0
  entry_low its_home e entry = (let low = reached_low (log_of_store image o store) o.entries.items its e entry.counts.1.reached in let tail = its_tail in omega (arith, low, tail))

  none_chain : (its_home : ℕ) → entry_of o.entries.items its_home ≡ 0 → chain_of image o its_home ≡ []
  none_chain its_home none = ap (λ (e : ℕ). chain_down (λ a. let cell = cell_at image o a in cell.previous) o.tail.0 e) none ∙ down_none _ o.tail.0

  pub chain_head : (its_home : ℕ) → head_of (chain_of image o its_home) ≡ entry_of o.entries.items its_home
  chain_head its_home = down_head _ o.tail.0 _ (elim (has_chain (log_of_store image o store) o.entries.items its its_home) [ inl entry ↦ entry_low its_home _ entry | inr none ↦ omega (arith, none.0) ])

  -- a chain has just the records that count for its home
  pub chain_counts : (its_home a : ℕ) → IsIn a (chain_of image o its_home) → Has (Counts (log_of_store image o store) its_home) a
  chain_counts its_home a has = elim (has_chain (log_of_store image o store) o.entries.items its its_home) [
    | inl entry ↦ ((its.chain its_home _ entry).all a).0 (in_along (log_of_store image o store) _ o.tail.0 _ a (all_lead its_home _ entry) has)
    | inr none ↦ absurd (subst (λ (chain : List ℕ). IsIn a chain) (none_chain its_home none.0) has)
  ]

  pub counts_chain : (its_home a : ℕ) → Has (Counts (log_of_store image o store) its_home) a → IsIn a (chain_of image o its_home)
  counts_chain its_home a has = elim (has_chain (log_of_store image o store) o.entries.items its its_home) [
    | inl entry ↦ along_in (log_of_store image o store) _ (one (log_of_store image o store) o.entries.items its) o.tail.0 _ a (entry_low its_home _ entry) (all_lead its_home _ entry) (((its.chain its_home _ entry).all a).1 has)
    | inr none ↦ absurd (none.1 a has)
  ]

  -- of one's own home
  own : (its_home a : ℕ) (x : Record) → Counts (log_of_store image o store) its_home a x → CountsAtHome (log_of_store image o store) a x
  own its_home a x counts = subst (λ (h : ℕ). Counts (log_of_store image o store) h a x) (sym counts.valid.same) counts

  pub counted_there : (a : ℕ) (x : Record) → CountsAtHome (log_of_store image o store) a x → logged_at image o a ≡ Published (cell_of (log_of_store image o store) x)
  unfolding logged_at
  counted_there a x counts =
      let is : cell_at image o a ≡ cell_of (log_of_store image o store) x = here_is a x counts.valid.stands in
      let test : is_in a (chain_of image o (home_in o.shape.bucket_bits x.key.0)) ≡ true =
      in_is a _ (subst (λ (h : ℕ). IsIn a (chain_of image o h)) (at_home x) (counts_chain _ a (x, counts))) in
      rw (is, test) refl

  pub published_there : (a : ℕ) (cell : Cell) → logged_at image o a ≡ Published cell → IsCellOf (log_of_store image o store) a cell
  unfolding logged_at
  published_there a cell is = by_test (is_in a (chain_of image o (home_in o.shape.bucket_bits (let c = cell_at image o a in c.key)))) refl is
    where
      by_test : (t : Bool) → is_in a (chain_of image o (home_in o.shape.bucket_bits (let c = cell_at image o a in c.key))) ≡ t → cond t (Published (cell_at image o a)) Unborn ≡ Published cell → IsCellOf (log_of_store image o store) a cell
      by_test true test is =
          let has = chain_counts _ a (is_there a _ test) in
          record {
            held = has.0;
            counts = own _ a has.0 has.1;
            its = sym (same_cell _ _ is) ∙ here_is a has.0 has.1.valid.stands;
          }
      by_test false test is = absurd (cc)

  pub has_what_counts : HasWhatCounts (log_of_store image o store) (opening_log image o)
  has_what_counts = record {
    chains = λ its_home a. (chain_counts its_home a, counts_chain its_home a);
    counted = counted_there;
    published = published_there;
  }

  -- ---- what is in none
  not_there : (a : ℕ) → ((its_home : ℕ) → IsIn a (chain_of image o its_home) → ⊥) → logged_at image o a ≡ Unborn
  unfolding logged_at
  not_there a none = by_test (is_in a (chain_of image o (home_in o.shape.bucket_bits (let c = cell_at image o a in c.key)))) refl
    where
      by_test : (t : Bool) → is_in a (chain_of image o (home_in o.shape.bucket_bits (let c = cell_at image o a in c.key))) ≡ t → cond t (Published (cell_at image o a)) Unborn ≡ Unborn
      by_test true test = absurd (none _ (is_there a _ test))
      by_test false test = refl

  pub zero_unborn : logged_at image o 0 ≡ Unborn
  zero_unborn = not_there 0 (λ its_home has. down_in_some _ o.tail.0 _ 0 has refl)

  pub tail_unborn : (a : ℕ) → o.tail.0 ≤ a → logged_at image o a ≡ Unborn
  tail_unborn a high = not_there a (λ its_home has.
      let low = reached_low (log_of_store image o store) o.entries.items its a (chain_counts its_home a has).1.reached in
      let tail = its_tail in
      omega (arith, low, tail, high))

  pub cell_low : (a : ℕ) (cell : Cell) → logged_at image o a ≡ Published cell → a < o.tail.0
  cell_low a cell is =
      let low = reached_low (log_of_store image o store) o.entries.items its a (published_there a cell is).counts.reached in
      let tail = its_tail in
      omega (arith, low, tail)

  -- none lies below the store's begin
  pub cell_begun : (a : ℕ) (cell : Cell) → logged_at image o a ≡ Published cell → o.begin.0 ≤ a
  cell_begun a cell is =
      let before = store.checkpoint.newest.manifest.suits.begin.before_scan in
      let begun = reached_begun (log_of_store image o store) before a (published_there a cell is).counts.reached in
      let begin = its_begin in
      omega (arith, begun, begin)

  -- ---- the chains of the log
  linked_chain : (its_home : ℕ) → IsLinked (logged_at image o) (chain_of image o its_home)
  linked_chain its_home = elim (has_chain (log_of_store image o store) o.entries.items its its_home) [
    | inl entry ↦ down_linked (log_of_store image o store) _ (logged_at image o) o.tail.0 _ (entry_low its_home _ entry) (all_lead its_home _ entry)
        (λ b along.
        let has = ((its.chain its_home _ entry).all b).0 along in
        let next : (let cell = cell_at image o b in cell.previous) ≡ next_of (log_of_store image o store) has.0 = ap (λ (cell : Cell). cell.previous) (here_is b has.0 has.1.valid.stands) in
        ap previous_of (counted_there b has.0 (own its_home b has.0 has.1)) ∙ ap Some (sym next))
    | inr none ↦ subst (λ (chain : List ℕ). IsLinked (logged_at image o) chain) (sym (none_chain its_home none.0)) tt
  ]

  pub are_chains : AreChains (home_in o.shape.bucket_bits) (opening_log image o)
  are_chains = record {
    in_chain = λ h a has.
        let counts = chain_counts h a has in
        record {
          cell = cell_of (log_of_store image o store) counts.0;
          its = counted_there a counts.0 (own h a counts.0 counts.1);
          its_home = sym (at_home counts.0) ∙ counts.1.valid.same;
        };
    its_chain = λ a cell is.
        let there = published_there a cell is in
        subst (λ (h : ℕ). IsIn a (chain_of image o h)) (at_home there.held ∙ ap (λ (c : Cell). home_in o.shape.bucket_bits c.key) (sym there.its)) (counts_chain _ a (there.held, there.counts));
    linked = linked_chain;
  }

pub never_reserved : (image : List ℕ) (o : Opened) (a : ℕ) (entry : _) (cell : Cell) → logged_at image o a ≡ Reserved entry cell → ⊥
unfolding logged_at
never_reserved image o a entry cell is = by_test (is_in a (chain_of image o (home_in o.shape.bucket_bits (let c = cell_at image o a in c.key)))) is
  where
    by_test : (t : Bool) → cond t (Published (cell_at image o a)) Unborn ≡ Reserved entry cell → ⊥
    by_test true is = absurd (cc)
    by_test false is = absurd (cc)
