-- The log is one with which the order law begins: its chains show the pairs of the store.
use Rattle.std.proofs.Common.{◌≡◌, ◌⊎◌, inl, inr, ℕ, ◌<◌, ◌≤◌, Bool, true, false, cond, Some, None, List, [], ◌∷◌, refl, sym, ap, subst, ◌∙◌, arith}
use Rattle.std.specs.FinMap.{get, nat_cmp-IsAntisymmetric, same_map}
use Rattle.std.specs.Prelude.{◌↔◌, nat_eq}
use Rattle.std.proofs.lemmas.Bool.Decides.{nat_tests}
use Rattle.std.proofs.lemmas.Cmp.{nat_cmp_total}
use Rattle.fkv_base.specs.declared.numbers.Key.{Key}
use Rattle.fkv_base.specs.declared.numbers.Value.{Value}
use Rattle.fkv_core.specs.Openings.{IsOpeningWorld}
use Rattle.law_paper.specs.Below.fkv_opening.Opened.{IsStoreOf}
use Rattle.law_paper.specs.Below.fkv_opening.TheOpened.{Opened}
use Rattle.law_refine.specs.Below.fkv_ops.Values.{value_of}
use Rattle.law_log.proofs.Shown.{first_is}
use Rattle.law_log.specs.Chains.{Cell, Logged, Unborn, Reserved, Published, Dropped, first_such, has_key, head_of, value_at}
use Rattle.law_log.specs.Ghosts.{newest_of, shown}
use Rattle.law_log.specs.Enabled.{IsLinked, IsOpened}
use Rattle.law_log.specs.Trace.{IsIn}
use Rattle.law_paper.specs.Below.fkv_pairs.Pairs.{ArePairs, CountsAtHome, HasValue, IsNewest, log_of_store}
use Rattle.fkv_plane.specs.Asked.{word_at}
use Rattle.fkv_plane.specs.Places.{shared_place}
use Rattle.fkv_plane.specs.declared.places.SharedWord.TheVariants as one_word
use Rattle.fkv_record.specs.declared.records.Record.{Record}
use Rattle.law_paper.specs.Below.fkv_scan.Records.{Stands}
use Rattle.law_refine.specs.Below.fkv_world.World.{Now}
use Rattle.law_refine.specs.Events.GhostEvents.{home_in, safe_at}
use Rattle.law_refine.specs.Events.Reserved.{tail_at}
use Rattle.law_opening.specs.Log.Begins.{Begins}
use Rattle.law_opening.specs.Log.Maps.{opening_map}
use Rattle.law_opening.specs.Log.OpeningLog.{chain_of, logged_at, opening_ghosts, opening_log}
use Rattle.law_opening.specs.Log.Records.{cell_of, map_of}
use Rattle.law_opening.proofs.OfLog.Counted.{are_chains, at_home, cell_low, counted_there, counts_chain, here_is, its_version, never_reserved, published_there, tail_unborn, zero_unborn}
use Rattle.law_opening.proofs.OfLog.Mapping.{get_value}
use Rattle.law_opening.proofs.OfLog.Pairing.{shows_pairs, value_is, value_some}
use Rattle.law_opening.proofs.OfLog.Reaching.{IsOfStore, one}
use Rattle.law_opening.proofs.OfLog.Walking.{down_in_some}

-- down a chain addresses fall
in_below : (cells : ℕ → Logged) (a : ℕ) (older : List ℕ) → head_of older < a → IsLinked cells older → (b : ℕ) → IsIn b older → b < a
in_below cells a [] low linked b has = absurd has
in_below cells a (c ∷ older) low linked b (inl same) = omega (arith, low, same)
in_below cells a (c ∷ older) low linked b (inr rest) = in_below cells a older (let lower = linked.1 in omega (arith, lower, low)) linked.2 b rest

-- so the first record that passes a test is the newest
pub first_newest : (test : Logged → Bool) (cells : ℕ → Logged) (chain : List ℕ) → IsLinked cells chain → (b : ℕ) → IsIn b chain → test (cells b) ≡ true
    → IsIn (first_such test cells chain) chain × (b ≤ first_such test cells chain)
first_newest test cells [] linked b has is = absurd has
first_newest test cells (a ∷ older) linked b has is = by_test (test (cells a)) refl (first_newest test cells older linked.2 b) has
  where
    by_test : (t : Bool) → test (cells a) ≡ t → (IsIn b older → test (cells b) ≡ true → IsIn (first_such test cells older) older × (b ≤ first_such test cells older))
        → (a ≡ b) ⊎ IsIn b older → IsIn (cond t a (first_such test cells older)) (a ∷ older) × (b ≤ cond t a (first_such test cells older))
    by_test true own rest (inl same) = (inl refl, omega (arith, same))
    by_test true own rest (inr later) = (inl refl, (let low = in_below cells a older linked.1 linked.2 b later in omega (arith, low)))
    by_test false other rest (inl same) = let off : true ≡ false = sym is ∙ ap (λ (n : ℕ). test (cells n)) (sym same) ∙ other in absurd (cc)
    by_test false other rest (inr later) = (let found = rest later is in (inr found.0, found.1))

module _ (image : List ℕ) (o : Opened) (store : IsStoreOf image o) (its : IsOfStore (log_of_store image o store) o.entries.items) where
  -- a record that counts, of a key, stands in the chain of the key's home
  key_chain : (key b : ℕ) (y : Record) → CountsAtHome (log_of_store image o store) b y → y.key ≡ record { 0 = key } → IsIn b (chain_of image o (home_in o.shape.bucket_bits key)) × (has_key key (logged_at image o b) ≡ true)
  key_chain key b y counts of_key =
      let same : y.key.0 ≡ key = ap (λ (k : Key). k.0) of_key in
      let own : nat_eq y.key.0 key ≡ true = grind (arith, nat_tests) in (
        subst (λ (h : ℕ). IsIn b (chain_of image o h)) (at_home image o store its y ∙ ap (home_in o.shape.bucket_bits) same) (counts_chain image o store its _ b (y, counts)),
        ap (has_key key) (counted_there image o store its b y counts) ∙ own,
      )

  -- the first record of a key down its home's chain is the newest
  is_newest : (key a : ℕ) (x : Record) → CountsAtHome (log_of_store image o store) a x → x.key ≡ record { 0 = key } → newest_of (home_in o.shape.bucket_bits) (opening_log image o) key ≡ a → IsNewest (log_of_store image o store) (record { 0 = key }) a x
  is_newest key a x counts of_key is = record {
    counts = counts;
    of_key = of_key;
    greatest = λ b y other same.
        let there = key_chain key b y other same in
        let most = (first_newest (has_key key) (logged_at image o) _ ((are_chains image o store its).linked _) b there.0 there.1).1 in
        omega (arith, most, is);
  }

  same_newest : (key : Key) (a b : ℕ) (x y : Record) → IsNewest (log_of_store image o store) key a x → IsNewest (log_of_store image o store) key b y → x ≡ y
  same_newest key a b x y first second =
      let up = first.greatest b y second.counts second.of_key in
      let down = second.greatest a x first.counts first.of_key in
      let at : a ≡ b = omega (arith, up, down) in
      one (log_of_store image o store) o.entries.items its b x y (subst (λ (n : ℕ). Stands (log_of_store image o store) n x) at first.counts.valid.stands) second.counts.valid.stands

  -- it shows the value that the key has
  module _ (key : ℕ) where
    abbrev ShowsValue : Type 0
    ShowsValue = (v : ℕ) → (shown (home_in o.shape.bucket_bits) (opening_log image o) key ≡ Some v) ↔ HasValue (log_of_store image o store) (record { 0 = key }) (record { 0 = v })

    by_record : (a : ℕ) (x : Record) → newest_of (home_in o.shape.bucket_bits) (opening_log image o) key ≡ a → logged_at image o a ≡ Published (cell_of (log_of_store image o store) x)
        → IsNewest (log_of_store image o store) (record { 0 = key }) a x → ShowsValue
    by_record a x is there newest v =
        let value : shown (home_in o.shape.bucket_bits) (opening_log image o) key ≡ value_of x.value = ap (λ (n : ℕ). value_at (logged_at image o n)) is ∙ ap value_at there in (
          λ shows.
              let its_word = value_is x.value v (sym value ∙ shows) in
              record { addr = a; held = x; newest = newest; written = its_word.0; present = its_word.1 },
          λ has.
              let same = same_newest (record { 0 = key }) a has.addr x has.held newest has.newest in
              value ∙ value_some x.value v (ap (λ (y : Record). y.value) same ∙ has.written) has.present,
        )

    by_none : newest_of (home_in o.shape.bucket_bits) (opening_log image o) key ≡ 0 → ShowsValue
    by_none is v =
        let value : shown (home_in o.shape.bucket_bits) (opening_log image o) key ≡ None = ap (λ (n : ℕ). value_at (logged_at image o n)) is ∙ ap value_at (zero_unborn image o store its) in (
          λ shows. let off : None ≡ Some v = sym value ∙ shows in absurd (cc),
          λ has.
              let there = key_chain key has.addr has.held has.newest.counts has.newest.of_key in
              let found = (first_newest (has_key key) (logged_at image o) _ ((are_chains image o store its).linked _) has.addr there.0 there.1).0 in
              absurd (down_in_some _ o.tail.0 _ _ found is),
        )

    by_cell : (a : ℕ) (logged : Logged) → newest_of (home_in o.shape.bucket_bits) (opening_log image o) key ≡ a → logged_at image o a ≡ logged → has_key key logged ≡ true → ShowsValue
    by_cell a (Published cell) is there own =
        let found = published_there image o store its a cell there in
        let x : Record = found.held in
        let key_is : cell.key ≡ key = (let e : nat_eq cell.key key ≡ true = own in grind (arith, nat_tests)) in
        let same : x.key.0 ≡ key = ap (λ (c : Cell). c.key) (sym found.its) ∙ key_is in
        by_record a x is (counted_there image o store its a x found.counts) (is_newest key a x found.counts (ap (λ (n : ℕ). let k : Key = record { 0 = n } in k) same) is)
    by_cell a Unborn is there own = absurd (cc)
    by_cell a (Reserved entry cell) is there own = absurd (cc)
    by_cell a (Dropped cell) is there own = absurd (cc)

    pub shows_value : ShowsValue
    shows_value = elim (first_is (has_key key) (logged_at image o) (chain_of image o (home_in o.shape.bucket_bits key))) [
      | inl none ↦ by_none none
      | inr some ↦ by_cell _ _ refl refl some.1
    ]

  -- so does the map of the store
  shows_map : (key : ℕ) → shown (home_in o.shape.bucket_bits) (opening_log image o) key ≡ get (opening_map image o) key
  shows_map = get_value (shown (home_in o.shape.bucket_bits) (opening_log image o)) _ o.tail.0 (λ key v is.
      let newest = ((shows_value key v).0 is).newest in
      let a : ℕ = ((shows_value key v).0 is).addr in
      let x : Record = ((shows_value key v).0 is).held in (
        a,
        cell_low image o store its a _ (counted_there image o store its a x newest.counts),
        ap (λ (c : Cell). c.key) (here_is image o store its a x newest.counts.valid.stands) ∙ ap (λ (k : Key). k.0) newest.of_key,
      ))

  -- and that of its pairs
  pub same_map_of : (pairs : List (Key × Value)) → ArePairs (log_of_store image o store) pairs → map_of pairs ≡ opening_map image o
  same_map_of pairs are = same_map nat_cmp_total nat_cmp-IsAntisymmetric _ _ (λ key.
      sym (shows_pairs (log_of_store image o store) pairs are key _ (λ v has. (shows_value key v).1 has) (λ v is_value. (shows_value key v).0 is_value)) ∙ shows_map key)

  -- and nothing was told or has taken effect
  pub is_opened : IsOpened (home_in o.shape.bucket_bits) (opening_map image o) o.number.0 (opening_ghosts image o)
  is_opened = record {
    chains = are_chains image o store its;
    none = zero_unborn image o store its;
    some_fixed = o.some_tail;
    all_fixed = cell_low image o store its;
    one_version = λ a cell is. ap (λ (c : Cell). c.version) (published_there image o store its a cell is).its ∙ sym (its_version image o store its);
    none_reserved = never_reserved image o;
    shows = shows_map;
    no_history = refl;
    no_trace = refl;
    no_reads = λ reader. refl;
  }

  -- so a life of the store's world may begin with it
  pub begins : (n : Now) → IsOpeningWorld o n → Begins n (opening_ghosts image o)
  begins n world =
      let safe : safe_at n ≡ o.tail.0 = ap (λ (words : List ℕ). word_at words (shared_place one_word.SafeReadOnly)) world.its_words.whole in
      let tail : tail_at n ≡ o.tail.0 = ap (λ (words : List ℕ). word_at words (shared_place one_word.Tail)) world.its_words.whole in
      record {
        no_trace = refl;
        no_history = refl;
        fixed = sym safe;
        reserves_nothing = never_reserved image o;
        unborn = λ a high. tail_unborn image o store its a (omega (arith, high, tail));
      }
