-- A renewed log has room for its homes where the index has, and its pairs are those that it was made of.
use Rattle.std.proofs.Common.{◌≡◌, ◌≢◌, ⊎_elim, ℕ, zero, suc, ◌+◌, ◌-◌, ◌<◌, ◌≤◌, List, length, Some, refl, sym, ap, subst, ◌∙◌, arith}
use Rattle.std.specs.Prelude.{slice_get, Contains}
use Rattle.std.proofs.lemmas.Bool.{cases_eq, cases_lt}
use Rattle.std.proofs.lemmas.Option.{slice_get_within}
use Rattle.fkv_base.specs.declared.numbers.Key.{Key}
use Rattle.fkv_base.specs.declared.numbers.Value.{Value}
use Rattle.fkv_words.specs.Fields.{SpellsApart}
use Rattle.fkv_record.specs.declared.records.Record.{Record}
use Rattle.fkv_record.specs.Layout.{record_bytes}
use Rattle.fkv_scan.specs.Log.{Log, record_home}
use Rattle.fkv_chains.specs.Entries.{Counts, IsEntry}
use Rattle.fkv_opening.specs.Faults.{IsSound}
use Rattle.fkv_pairs.specs.Pairs.{ArePairs, HasValue, absent_word}
use Rattle.fkv_room.specs.Room.{AreHomes, HasRoom}
use Rattle.fkv_renewing.specs.Logs.{IsRenewedLog}
use Rattle.fkv_renewing.specs.Records.{IsLastOf, key_home}
use Rattle.fkv_renewing.specs.Renewed.{AreSomePairs}
use Rattle.fkv_renewing.specs.Room.{AreHomesOf, HasSlots}
use Rattle.fkv_renewing.proofs.Chained.{IsAt, at, counted, counts, has_chains, has_scan, in_log}
use Rattle.fkv_renewing.proofs.Listed.{contained, contains, held, one_held, one_place}

-- before the first pair no home has an address
pub none_last : (bits : ℕ) (pairs : List (Key × Value)) (h : ℕ) → IsLastOf bits pairs 0 h 0
none_last bits pairs h = record { among = omega arith; here = λ some. absurd (some refl); none_above = λ i pair up low stands. absurd (omega (arith, low)) }

-- the next pair is the last of its home
pub last_here : (bits : ℕ) (pairs : List (Key × Value)) (n : ℕ) (pair : Key × Value) → slice_get pairs n ≡ Some pair → IsLastOf bits pairs (n + 1) (key_home bits pair.0) (n + 1)
last_here bits pairs n pair stands = record {
  among = omega arith;
  here = λ some. (pair, (let back : n ≡ (n + 1) - 1 = omega arith in subst (λ (i : ℕ). slice_get pairs i ≡ Some pair) back stands), refl);
  none_above = λ i other up low is. absurd (omega (arith, up, low));
}

-- and the last of each other home stays
pub last_stays : (bits : ℕ) (pairs : List (Key × Value)) (n h a : ℕ) (pair : Key × Value) → slice_get pairs n ≡ Some pair → key_home bits pair.0 ≢ h → IsLastOf bits pairs n h a → IsLastOf bits pairs (n + 1) h a
last_stays bits pairs n h a pair stands off last = record {
  among = omega (arith, last.among);
  here = last.here;
  none_above = λ i other up low is. ⊎_elim
      (λ below. last.none_above i other up below is)
      (λ not_below same.
      let there : i ≡ n = omega (arith, low, not_below) in
      let this : other ≡ pair = one_held pairs n other pair (subst (λ (k : ℕ). slice_get pairs k ≡ Some other) there is) stands in
      off (ap (λ (p : Key × Value). key_home bits p.0) (sym this) ∙ same))
      (cases_lt i n);
}

-- each home has a last address, or none
last_of : (bits : ℕ) (pairs : List (Key × Value)) (h n : ℕ) → n ≤ length pairs → (a : ℕ) × IsLastOf bits pairs n h a
last_of bits pairs h zero most = (0, none_last bits pairs h)
last_of bits pairs h (suc n) most =
    let pair = held pairs n (let p : n < length pairs = omega (arith, most) in p) in
    let up : n + 1 ≡ suc n = omega arith in
    ⊎_elim
    (λ same. (suc n, subst (λ (m : ℕ). IsLastOf bits pairs m h m) up (subst (λ (k : ℕ). IsLastOf bits pairs (n + 1) k (n + 1)) same (last_here bits pairs n pair.0 pair.1))))
    (λ off. (let rest = last_of bits pairs h n (omega (arith, most)) in (rest.0, subst (λ (m : ℕ). IsLastOf bits pairs m h rest.0) up (last_stays bits pairs n h rest.0 pair.0 pair.1 off rest.1))))
    (cases_eq (key_home bits pair.0.0) h)

value_of : ℕ → Value
value_of n = record { 0 = n }

value_is : (x y : Value) → x.0 ≡ y.0 → x ≡ y
unfolding value_of
value_is x y e = ap value_of e

module _ (spelled : SpellsApart record_bytes) (log : Log) (pairs : List (Key × Value)) (records : List Record) (renewed : IsRenewedLog log pairs records) where
  -- a home of a pair has an entry
  has_entry : (pair : Key × Value) → Contains pairs pair → (a : ℕ) × IsEntry log (key_home log.shape.bucket_bits pair.0) a
  has_entry pair has =
      let bits = log.shape.bucket_bits in
      let h = key_home bits pair.0 in
      let place = contained pairs pair has in
      let inside = slice_get_within pairs place.0 pair place.1 in
      let last = last_of bits pairs h (length pairs) (omega arith) in
      let some : last.0 ≢ 0 = (λ none. last.1.none_above place.0 pair (omega (arith, none)) inside place.1 refl) in
      let low : last.0 < log.tail = omega (arith, last.1.among, renewed.tail) in
      let up : 1 ≤ last.0 = omega (arith, some) in
      let is = at spelled log pairs records renewed last.0 up low in
      let here = last.1.here some in
      let its_home : key_home bits is.pair.0 ≡ h = ap (λ (p : Key × Value). key_home bits p.0) (one_held pairs (last.0 - 1) is.pair here.0 is.of_pair here.1) ∙ here.2 in (
        last.0,
        record {
          counts = (is.held, subst (λ (k : ℕ). Counts log k last.0 is.held) its_home (counts spelled log pairs records renewed last.0 is up low));
          greatest = λ b y is_counted.
              let other = counted spelled log pairs records renewed h b y is_counted in
              let within = in_log spelled log pairs records renewed b is_counted.reached in
              ⊎_elim
              (λ above. absurd (last.1.none_above (b - 1) other.0.pair (omega (arith, above)) (omega (arith, within.0, within.1, renewed.tail)) other.0.of_pair other.2))
              (λ not_above. omega (arith, not_above))
              (cases_lt last.0 b);
        },
      )

  has_pair : (h a : ℕ) → IsEntry log h a → (pair : Key × Value) × Contains pairs pair × (key_home log.shape.bucket_bits pair.0 ≡ h)
  has_pair h a entry =
      let is = counted spelled log pairs records renewed h a entry.counts.0 entry.counts.1 in
      (is.0.pair, contains pairs (a - 1) is.0.pair is.0.of_pair, is.2)

  pub are_homes : (homes : List ℕ) → AreHomesOf log.shape.bucket_bits pairs homes → AreHomes log homes
  are_homes homes are = record {
    once = are.once;
    all = λ h. (
      (λ has. (let pair = (are.all h).0 has in subst (λ (k : ℕ). (a : ℕ) × IsEntry log k a) pair.2 (has_entry pair.0 pair.1))),
      (λ entry. (are.all h).1 (has_pair h entry.0 entry.1)),
    );
  }

  pub has_room : HasSlots log.shape pairs → HasRoom log
  has_room slots = record { homes = slots.homes; are_homes = are_homes slots.homes slots.are_homes; enough = slots.enough }

  pub is_sound : HasSlots log.shape pairs → IsSound log
  is_sound slots = record { scan = has_scan spelled log pairs records renewed; chains = has_chains spelled log pairs records renewed; room = has_room slots }

  -- ---- the pairs
  module _ (some : AreSomePairs pairs) where
    -- two addresses whose pairs have one key are the same
    same_place : (b c : ℕ) (x : IsAt log pairs b) (y : IsAt log pairs c) → 1 ≤ b → 1 ≤ c → x.pair.0 ≡ y.pair.0 → b ≡ c
    same_place b c x y up over same =
        let places = one_place (λ (pair : Key × Value). pair.0.0) pairs (b - 1) (c - 1) x.pair y.pair some.ascending x.of_pair y.of_pair (ap (λ (k : Key). k.0) same) in
        omega (arith, places, up, over)

    to_value : (pair : Key × Value) → Contains pairs pair → HasValue log pair.0 pair.1
    to_value pair has =
        let place = contained pairs pair has in
        let c = place.0 + 1 in
        let up : 1 ≤ c = omega arith in
        let low : c < log.tail = omega (arith, slice_get_within pairs place.0 pair place.1, renewed.tail) in
        let is = at spelled log pairs records renewed c up low in
        let back : c - 1 ≡ place.0 = omega arith in
        let its_pair : is.pair ≡ pair = one_held pairs place.0 is.pair pair (subst (λ (i : ℕ). slice_get pairs i ≡ Some is.pair) back is.of_pair) place.1 in
        let its_counts = counts spelled log pairs records renewed c is up low in
        record {
          addr = c;
          held = is.held;
          newest = record {
            counts = subst (λ (h : ℕ). Counts log h c is.held) (sym its_counts.valid.same) its_counts;
            of_key = is.is.key ∙ ap (λ (p : Key × Value). p.0) its_pair;
            greatest = λ b y is_counted same.
                let other = counted spelled log pairs records renewed (record_home log.shape.bucket_bits y) b y is_counted in
                let within = in_log spelled log pairs records renewed b is_counted.reached in
                let keys : other.0.pair.0 ≡ is.pair.0 = sym other.0.is.key ∙ ap (λ (x : Record). x.key) (sym other.1) ∙ same ∙ ap (λ (p : Key × Value). p.0) (sym its_pair) in
                omega (arith, same_place b c other.0 is within.0 up keys);
          };
          written = is.is.value ∙ ap (λ (p : Key × Value). p.1.0) its_pair;
          present = (let is_present : pair.1.0 ≢ absent_word = present_at pair has in is_present);
        }
      where
        present_at : (p : Key × Value) → Contains pairs p → p.1.0 ≢ absent_word
        present_at p (k, inside, is) = subst (λ (q : Key × Value). q.1.0 ≢ absent_word) is (some.present k p inside)

    from_value : (pair : Key × Value) → HasValue log pair.0 pair.1 → Contains pairs pair
    from_value pair has =
        let is = counted spelled log pairs records renewed (record_home log.shape.bucket_bits has.held) has.addr has.held has.newest.counts in
        let key : is.0.pair.0 ≡ pair.0 = sym is.0.is.key ∙ ap (λ (x : Record). x.key) (sym is.1) ∙ has.newest.of_key in
        let word : is.0.pair.1.0 ≡ pair.1.0 = sym is.0.is.value ∙ ap (λ (x : Record). x.value) (sym is.1) ∙ has.written in
        let value : is.0.pair.1 ≡ pair.1 = value_is is.0.pair.1 pair.1 word in
        let same : is.0.pair ≡ pair = λ i. (key i, value i) in
        subst (λ (p : Key × Value). Contains pairs p) same (contains pairs (has.addr - 1) is.0.pair is.0.of_pair)

    pub are_pairs : ArePairs log pairs
    are_pairs = record { ascending = some.ascending; all = λ pair. (to_value pair, from_value pair) }
