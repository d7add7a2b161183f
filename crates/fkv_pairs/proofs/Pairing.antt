-- What the chains of all entries give is the pairs of the store.
use Rattle.std.proofs.Common.{◌≡◌, ◌≢◌, ⊎_elim, ℕ, zero, suc, ◌+◌, ◌<◌, true, List, [], ◌∷◌, length, Option, Some, None, refl, sym, ap, subst, ◌∙◌, arith, map}
use Rattle.std.specs.Prelude.{slice_get, Contains}
use Rattle.std.specs.Option.{is_some}
use Rattle.std.specs.Ordering.{nat_cmp}
use Rattle.std.specs.BTreeMap.{BTreeMap, get}
use Rattle.fkv_base.specs.declared.numbers.Key.{Key}
use Rattle.fkv_base.specs.declared.numbers.Value.{Value}
use Rattle.fkv_words.specs.Fields.{SpellsApart}
use Rattle.fkv_record.specs.declared.records.Record.{Record}
use Rattle.fkv_record.specs.Layout.{record_bytes}
use Rattle.fkv_scan.specs.Log.{Log, record_home}
use Rattle.fkv_scan.specs.Records.{Stands}
use Rattle.fkv_scan.proofs.Shown.{at_or_below, some_is, some_of}
use Rattle.fkv_chains.specs.Entries.{Counts, IsEntry}
use Rattle.fkv_room.proofs.Shown.{in_rest, in_head, in_tail}
use Rattle.fkv_entries.specs.declared.home_entries.HomeEntry.{HomeEntry}
use Rattle.fkv_opening.specs.Entries.{entry_home, place_of, AreEntries}
use Rattle.fkv_pairs.specs.Gathered.{IsFaultless, IsGathered, AreGathered, AreShown}
use Rattle.fkv_pairs.specs.Pairs.{IsNewest, HasValue, ArePairs, absent_word}
use Rattle.fkv_pairs.proofs.Meeting.{one}
use Rattle.fkv_pairs.proofs.Chained.{has_entry}

-- an entry of the list, by its home and address
pub entry_place : (entries : List HomeEntry) (h a : ℕ) → Contains (map place_of entries) (h, a) → (j : ℕ) × (x : HomeEntry) × (j < length entries) × (slice_get entries j ≡ Some x) × (entry_home x ≡ h)
entry_place [] h a has = absurd (omega (arith, has.1))
entry_place (x ∷ xs) h a has = ⊎_elim
    (λ same. (0, x, (let low : 0 < suc (length xs) = omega arith in low), refl, ap (λ (p : ℕ × ℕ). p.0) same))
    (λ rest. (let at = entry_place xs h a rest in (suc at.0, at.1, (let low : suc at.0 < suc (length xs) = omega (arith, at.2) in low), at.3, at.4)))
    (in_rest (place_of x) (h, a) (map place_of xs) has)

-- and each entry of the list is one of the store
pub entry_here : (log : Log) (entries : List HomeEntry) → AreEntries log entries → (i : ℕ) (e : HomeEntry) → slice_get entries i ≡ Some e → IsEntry log (entry_home e) e.entry.addr.0
entry_here log entries are i e stands = (are.all (entry_home e) e.entry.addr.0).0 (in_places entries i e stands)
  where
    in_places : (xs : List HomeEntry) (k : ℕ) (x : HomeEntry) → slice_get xs k ≡ Some x → Contains (map place_of xs) (place_of x)
    in_places [] k x is = absurd (cc)
    in_places (y ∷ ys) zero x is = in_head (place_of y) (place_of x) (map place_of ys) (ap place_of (some_is y x is))
    in_places (y ∷ ys) (suc k) x is = in_tail (place_of y) (place_of x) (map place_of ys) (in_places ys k x is)

-- before the first chain
pub none_gathered : (log : Log) (at : ℕ → Option ℕ) (entries : List HomeEntry) → ((k : ℕ) → at k ≡ None) → AreGathered log at entries 0
none_gathered log at entries empty = record {
  newest = λ k x is. let off : None ≡ Some x = sym (empty k) ∙ is in absurd (cc);
  all = λ j e below stands. absurd (omega (arith, below));
}

-- one chain more
pub gathered_more : (log : Log) (before after : ℕ → Option ℕ) (entries : List HomeEntry) (i : ℕ) (e : HomeEntry) → slice_get entries i ≡ Some e → AreGathered log before entries i → IsGathered log (entry_home e) before after → AreGathered log after entries (i + 1)
gathered_more log before after entries i e stands so_far more = record {
  newest = more.newest;
  all = λ j other below its b y counts. ⊎_elim
      (λ low. more.keeps y.key.0 (so_far.all j other low its b y counts))
      (λ last.
      let same : other ≡ e = some_is other e (sym its ∙ ap (λ (n : ℕ). slice_get entries n) last ∙ stands) in
      more.all b y (subst (λ (o : HomeEntry). Counts log (entry_home o) b y) same counts))
      (at_or_below j i below);
}

-- a key has one newest record
same_addr : (log : Log) (k : Key) (a b : ℕ) (x y : Record) → IsNewest log k a x → IsNewest log k b y → a ≡ b
same_addr log k a b x y first second =
    let up = first.greatest b y second.counts second.of_key in
    let down = second.greatest a x first.counts first.of_key in
    omega (arith, up, down)

same_newest : (spelled : SpellsApart record_bytes) (log : Log) (sound : IsFaultless log) (k : Key) (a b : ℕ) (x y : Record) → IsNewest log k a x → IsNewest log k b y → x ≡ y
same_newest spelled log sound k a b x y first second =
    one spelled log sound b x y (subst (λ (n : ℕ). Stands log n x) (same_addr log k a b x y first second) first.counts.valid.stands) second.counts.valid.stands

module _ (spelled : SpellsApart record_bytes) (log : Log) (sound : IsFaultless log) (entries : List HomeEntry) (are : AreEntries log entries) where
  pub are_pairs : (values : BTreeMap ℕ ℕ) (pairs : List (Key × Value)) → AreGathered log (get nat_cmp values) entries (length entries) → AreShown values pairs → ArePairs log pairs
  are_pairs values pairs gathered shows = record {
    ascending = shows.ascending;
    all = λ pair. (
      (λ has. to_value pair ((shows.all pair).0 has)),
      (λ has. (shows.all pair).1 (from_value pair has, has.present)),
    );
  }
    where
      to_value : (pair : Key × Value) → (get nat_cmp values pair.0.0 ≡ Some pair.1.0) × (pair.1.0 ≢ absent_word) → HasValue log pair.0 pair.1
      to_value pair is =
          let newest = gathered.newest pair.0.0 pair.1.0 is.0 in
          record { addr = newest.addr; held = newest.held; newest = newest.newest; written = newest.written; present = is.1 }

      has_key : (a : ℕ) (x : Record) (its_home e : ℕ) → Counts log its_home a x → IsEntry log its_home e → is_some (get nat_cmp values x.key.0) ≡ true
      has_key a x its_home e counts entry =
          let at = entry_place entries its_home e ((are.all its_home e).1 entry) in
          gathered.all at.0 at.1 at.2 at.3 a x (subst (λ (h : ℕ). Counts log h a x) (sym at.4) counts)

      from_value : (pair : Key × Value) → HasValue log pair.0 pair.1 → get nat_cmp values pair.0.0 ≡ Some pair.1.0
      from_value pair has =
          let entry = has_entry spelled log sound (record_home log.shape.bucket_bits has.held) has.addr has.held has.newest.counts in
          let key_has = has_key has.addr has.held (record_home log.shape.bucket_bits has.held) entry.0 has.newest.counts entry.1 in
          let some : is_some (get nat_cmp values pair.0.0) ≡ true = ap (λ (k : Key). is_some (get nat_cmp values k.0)) (sym has.newest.of_key) ∙ key_has in
          let found = some_of (get nat_cmp values pair.0.0) some in
          let newest = gathered.newest pair.0.0 found.0 found.1 in
          let same : newest.held ≡ has.held = same_newest spelled log sound pair.0 newest.addr has.addr newest.held has.held newest.newest has.newest in
          found.1 ∙ ap Some (sym newest.written ∙ ap (λ (x : Record). x.value) same ∙ has.written)
