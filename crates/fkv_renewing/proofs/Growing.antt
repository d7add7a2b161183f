-- The records of the pairs, one after another.
use Rattle.std.proofs.Common.{◌≡◌, ◌≢◌, ⊎_elim, ℕ, ◌+◌, ◌≤◌, true, false, cond, List, [], ◌∷◌, ◌++◌, length, Option, Some, None, refl, sym, ap, subst, ◌∙◌, arith}
use Rattle.std.specs.Prelude.{slice_get, unwrap_or}
use Rattle.std.specs.Ordering.{is_eq, nat_cmp}
use Rattle.std.proofs.lemmas.List.{length-append}
use Rattle.fkv_base.specs.declared.numbers.Key.{Key}
use Rattle.fkv_base.specs.declared.numbers.Value.{Value}
use Rattle.fkv_record.specs.declared.records.Record.{Record}
use Rattle.fkv_room.proofs.Shown.{by_cond}
use Rattle.fkv_scan.proofs.Shown.{at_same, got, got_more, is_same}
use Rattle.fkv_renewing.specs.Records.{AreLatest, AreRecords, IsLastOf, IsRecordOf, key_home}
use Rattle.fkv_renewing.proofs.Holding.{last_here, last_stays, none_last}
use Rattle.fkv_renewing.proofs.Listed.{one_held}

-- what the first n pairs have given
pub record IsChainedTo (bits : ℕ) (pairs : List (Key × Value)) (n : ℕ) (records : List Record) (at : ℕ → Option ℕ) : Type 0 where
  pub many : length records ≡ n
  pub each : (i : ℕ) (pair : Key × Value) (x : Record) → slice_get pairs i ≡ Some pair → slice_get records i ≡ Some x → IsRecordOf bits pairs i pair x
  pub latest : AreLatest bits pairs n at

pub none_chained : (bits : ℕ) (pairs : List (Key × Value)) (at : ℕ → Option ℕ) → ((h : ℕ) → at h ≡ None) → IsChainedTo bits pairs 0 [] at
none_chained bits pairs at none = record {
  many = refl;
  each = λ i pair x of_pair is. absurd (cc);
  latest = record {
    last = λ h. subst (λ (o : Option ℕ). IsLastOf bits pairs 0 h (unwrap_or o 0)) (sym (none h)) (none_last bits pairs h);
    some = λ h a is. let off : None ≡ Some a = sym (none h) ∙ is in absurd (cc);
  };
}

pub all_chained : (bits : ℕ) (pairs : List (Key × Value)) (n : ℕ) (records : List Record) (at : ℕ → Option ℕ) → n ≡ length pairs → IsChainedTo bits pairs n records at → AreRecords bits pairs records
all_chained bits pairs n records at all chained = record { many = chained.many ∙ all; each = chained.each }

off_of : (h q : ℕ) → is_eq (nat_cmp h q) ≡ false → h ≢ q
off_of h q off same = let never : true ≡ false = sym (at_same h q same) ∙ off in cc

module _ (bits : ℕ) (pairs : List (Key × Value)) (n : ℕ) (records : List Record) (before : ℕ → Option ℕ) (so_far : IsChainedTo bits pairs n records before) (pair : Key × Value) (stands : slice_get pairs n ≡ Some pair) where
  pub last_low : (h : ℕ) → unwrap_or (before h) 0 ≤ n
  last_low h = let last = so_far.latest.last h in last.among

  -- one pair more
  module _ (x : Record) (after : ℕ → Option ℕ) (h : ℕ) (its_home : h ≡ key_home bits pair.0) (key : x.key ≡ pair.0) (value : x.value ≡ pair.1.0) (version : x.header.version.0 ≡ 1) (valid : x.header.invalid ≡ false)
      (leads : x.header.previous.0 ≡ unwrap_or (before h) 0) (updates : (q : ℕ) → after q ≡ cond (is_eq (nat_cmp h q)) (Some (n + 1)) (before q)) where
    here : IsRecordOf bits pairs n pair x
    here = record {
      key = key;
      value = value;
      version = version;
      valid = valid;
      leads = subst (λ (a : ℕ). IsLastOf bits pairs n (key_home bits pair.0) a) (ap (λ (k : ℕ). unwrap_or (before k) 0) (sym its_home) ∙ sym leads) (so_far.latest.last (key_home bits pair.0));
    }

    moved : (i : ℕ) (other : Key × Value) (y : Record) → i ≡ n → pair ≡ other → x ≡ y → IsRecordOf bits pairs i other y
    moved i other y place same_pair same =
        subst (λ (k : ℕ). IsRecordOf bits pairs k other y) (sym place)
        (subst (λ (p : Key × Value). IsRecordOf bits pairs n p y) same_pair
        (subst (λ (z : Record). IsRecordOf bits pairs n pair z) same here))

    last_next : (q : ℕ) → IsLastOf bits pairs (n + 1) q (unwrap_or (after q) 0)
    last_next q = subst (λ (o : Option ℕ). IsLastOf bits pairs (n + 1) q (unwrap_or o 0)) (sym (updates q))
        (by_cond (λ (o : Option ℕ). IsLastOf bits pairs (n + 1) q (unwrap_or o 0)) (is_eq (nat_cmp h q)) (Some (n + 1)) (before q)
        (λ same. subst (λ (k : ℕ). IsLastOf bits pairs (n + 1) k (n + 1)) (sym its_home ∙ is_same h q same) (last_here bits pairs n pair stands))
        (λ off. last_stays bits pairs n q (unwrap_or (before q) 0) pair stands (λ same. off_of h q off (its_home ∙ same)) (so_far.latest.last q)))

    pub chained_more : IsChainedTo bits pairs (n + 1) (records ++ x ∷ []) after
    chained_more = record {
      many = length-append records (x ∷ []) ∙ ap (λ (m : ℕ). m + 1) so_far.many;
      each = λ i other y of_pair is. ⊎_elim
          (λ was. so_far.each i other y of_pair was)
          (λ last.
          let place : i ≡ n = last.0 ∙ so_far.many in
          moved i other y place (one_held pairs n pair other stands (subst (λ (k : ℕ). slice_get pairs k ≡ Some other) place of_pair)) last.1)
          (got_more records x i y is);
      latest = record {
        last = last_next;
        some = λ q a is. ⊎_elim
            (λ this none. omega (arith, this.1, none))
            (λ was. so_far.latest.some q a was)
            (got h q (n + 1) (before q) a (sym (updates q) ∙ is));
      };
    }
