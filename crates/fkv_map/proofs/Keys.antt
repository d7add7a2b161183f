-- Content and legality, key by key.
use Rattle.std.proofs.Common.{◌≡◌, ℕ, Bool, true, false, cond, subst, List, [], ◌∷◌, ◌++◌, Option, Some, None, refl, sym, ap, ◌∙◌, arith}
use Rattle.std.specs.Prelude.{nat_eq}
use Rattle.std.specs.FinMap.{get, insert, get-insert, get-remove, same_map, nat_cmp-IsAntisymmetric}
use Rattle.std.specs.Ordering.{nat_cmp, eq_by_cmp}
use Rattle.std.proofs.lemmas.Bool.{cond-true}
use Rattle.std.proofs.lemmas.Bool.Decides.{nat_tests}
use Rattle.std.proofs.lemmas.Cmp.{nat_cmp_total}
use Rattle.std.proofs.lemmas.List.Elements.{filter-append}
use Rattle.fkv_base.specs.declared.numbers.Key.{Key}
use Rattle.fkv_base.specs.declared.numbers.Serial.{Serial}
use Rattle.fkv_map.specs.declared.operations.Op.{Op}
use Rattle.fkv_map.specs.declared.operations.Op.TheVariants.{Upsert, Delete, Add, Max, Read, Merge}
use Rattle.fkv_map.specs.declared.merges.Merge.TheVariants.{Keep}
use Rattle.fkv_map.specs.declared.history.HistoryEntry.{HistoryEntry}
use Rattle.fkv_map.specs.Map.{Map, applied, reply_to, sum_with, greater_with, with_value, merged}
use Rattle.fkv_map.specs.Keys.{key_of, value_applied, reply_from, is_on, entries_of, value_after, AreLegal}
use Rattle.fkv_map.specs.History.{content, IsLegal, kept, is_kept}
use Rattle.fkv_map.proofs.KeptEntries.{filter_swap, firsts_by_test}
use Rattle.fkv_map.proofs.Histories.{content-push, IsLegal-push, IsLegal-later}

-- ---- one operation
same_test : (k q : ℕ) → eq_by_cmp nat_cmp q k ≡ nat_eq k q
same_test k q = grind (arith, nat_tests)

own_key : (k : ℕ) → nat_eq k k ≡ true
own_key k = grind (arith, nat_tests)

its_key : (k q : ℕ) → nat_eq k q ≡ true → k ≡ q
its_key k q is = grind (arith, nat_tests)

no_change : (b : Bool) (v : Option ℕ) → cond b v v ≡ v
no_change true v = refl
no_change false v = refl

-- a value put at a key that was made of the key's own
put_at : (m : Map) (k q : ℕ) (f : Option ℕ → ℕ) → get (insert m k (f (get m k))) q ≡ cond (nat_eq k q) (Some (f (get m q))) (get m q)
put_at m k q f =
    get-insert nat_cmp_total m k (f (get m k)) q
    ∙ ap (λ b. cond b (Some (f (get m k))) (get m q)) (same_test k q)
    ∙ elim (nat_eq k q) as (λ b. nat_eq k q ≡ b → cond b (Some (f (get m k))) (get m q) ≡ cond b (Some (f (get m q))) (get m q)) [
      | true ↦ λ is. ap (λ n. Some (f (get m n))) (its_key k q is)
      | false ↦ λ is. refl
    ] refl

-- what a merge made of the key's own value
merge_at : (m : Map) (k q : ℕ) (f : Option ℕ → Option ℕ) → get (with_value m k (f (get m k))) q ≡ cond (nat_eq k q) (f (get m q)) (get m q)
merge_at m k q f =
    got (f (get m k))
    ∙ elim (nat_eq k q) as (λ b. nat_eq k q ≡ b → cond b (f (get m k)) (get m q) ≡ cond b (f (get m q)) (get m q)) [
      | true ↦ λ is. ap (λ n. f (get m n)) (its_key k q is)
      | false ↦ λ is. refl
    ] refl
  where
    got : (new : Option ℕ) → get (with_value m k new) q ≡ cond (nat_eq k q) new (get m q)
    got None = get-remove nat_cmp_total m k q ∙ ap (λ b. cond b None (get m q)) (same_test k q)
    got (Some v) = get-insert nat_cmp_total m k v q ∙ ap (λ b. cond b (Some v) (get m q)) (same_test k q)

-- an operation changes the value of its own key alone
pub get-applied : (m : Map) (op : Op) (key : ℕ) → get (applied m op) key ≡ cond (nat_eq (key_of op).0 key) (value_applied (get m key) op) (get m key)
get-applied m (Upsert k value) key = put_at m k.0 key (λ old. value.0)
get-applied m (Delete k) key = get-remove nat_cmp_total m k.0 key ∙ ap (λ b. cond b None (get m key)) (same_test k.0 key)
get-applied m (Add k n) key = put_at m k.0 key (λ old. sum_with old n)
get-applied m (Max k n) key = put_at m k.0 key (λ old. greater_with old n)
get-applied m (Read k) key = sym (no_change (nat_eq k.0 key) (get m key))
get-applied m (Merge k which n) key = merge_at m k.0 key (λ old. merged which old n)

-- a Keep changes nothing
pub keep_leaves : (m : Map) (k : Key) (n : ℕ) → applied m (Merge k Keep n) ≡ m
keep_leaves m k n = same_map nat_cmp_total nat_cmp-IsAntisymmetric _ _ (λ q. get-applied m (Merge k Keep n) q ∙ no_change (nat_eq k.0 q) (get m q))

-- an operation is replied to from the value of its key
pub reply_to_is : (m : Map) (op : Op) → reply_to m op ≡ reply_from (get m (key_of op).0) op
reply_to_is m (Upsert k value) = refl
reply_to_is m (Delete k) = refl
reply_to_is m (Add k n) = refl
reply_to_is m (Max k n) = refl
reply_to_is m (Read k) = refl
reply_to_is m (Merge k which n) = refl

-- ---- the entries on a key
pub entries_of-append : (key : ℕ) (earlier later : List HistoryEntry) → entries_of key (earlier ++ later) ≡ entries_of key earlier ++ entries_of key later
entries_of-append key earlier later = filter-append (is_on key) earlier later

-- what points keep of the entries on a key are the entries on it that they keep
pub entries_of-kept : (key : ℕ) (history : List HistoryEntry) (points : List Serial) → entries_of key (kept history points) ≡ kept (entries_of key history) points
entries_of-kept key history points = filter_swap (is_on key) (is_kept points) history

pub value_after-append : (old : Option ℕ) (earlier later : List HistoryEntry) → value_after old (earlier ++ later) ≡ value_after (value_after old earlier) later
value_after-append old [] later = refl
value_after-append old (entry ∷ earlier) later = value_after-append (value_applied old entry.op) earlier later

pub AreLegal-earlier : (old : Option ℕ) (earlier later : List HistoryEntry) → AreLegal old (earlier ++ later) → AreLegal old earlier
AreLegal-earlier old [] later all = tt
AreLegal-earlier old (entry ∷ earlier) later all = (all.0, AreLegal-earlier (value_applied old entry.op) earlier later all.1)

-- ---- content
value_first : (b : Bool) (old : Option ℕ) (entry : HistoryEntry) (rest : List HistoryEntry) → value_after (cond b (value_applied old entry.op) old) rest ≡ value_after old (cond b (entry ∷ rest) rest)
value_first true old entry rest = refl
value_first false old entry rest = refl

pub content_by_key : (m : Map) (history : List HistoryEntry) (key : ℕ) → get (content m history) key ≡ value_after (get m key) (entries_of key history)
content_by_key m [] key = refl
content_by_key m (entry ∷ later) key =
    content_by_key (applied m entry.op) later key
    ∙ ap (λ old. value_after old (entries_of key later)) (get-applied m entry.op key)
    ∙ value_first (is_on key entry) (get m key) entry (entries_of key later)

-- a map with each key's value is the content
pub is_content : (m n : Map) (history : List HistoryEntry) → ((key : ℕ) → get n key ≡ value_after (get m key) (entries_of key history)) → n ≡ content m history
is_content m n history same = same_map nat_cmp_total nat_cmp-IsAntisymmetric _ _ (λ key. same key ∙ sym (content_by_key m history key))

-- one more entry changes the value of its own key alone
pub content_one_more : (m : Map) (earlier : List HistoryEntry) (entry : HistoryEntry) (key : ℕ) → get (content m (earlier ++ entry ∷ [])) key ≡ cond (is_on key entry) (value_applied (get (content m earlier) key) entry.op) (get (content m earlier) key)
content_one_more m earlier entry key = ap (λ n. get n key) (content-push m earlier entry) ∙ get-applied (content m earlier) entry.op key

-- ---- legality
legal_first : (b : Bool) (old : Option ℕ) (entry : HistoryEntry) (rest : List HistoryEntry) → (b ≡ true → entry.reply ≡ reply_from old entry.op) → AreLegal (cond b (value_applied old entry.op) old) rest → AreLegal old (cond b (entry ∷ rest) rest)
legal_first true old entry rest same after = (same refl, after)
legal_first false old entry rest same after = after

legal_rest : (b : Bool) (old : Option ℕ) (entry : HistoryEntry) (rest : List HistoryEntry) → AreLegal old (cond b (entry ∷ rest) rest) → AreLegal (cond b (value_applied old entry.op) old) rest
legal_rest true old entry rest all = all.1
legal_rest false old entry rest all = all

pub legal_each : (m : Map) (history : List HistoryEntry) → IsLegal m history → (key : ℕ) → AreLegal (get m key) (entries_of key history)
legal_each m [] all key = tt
legal_each m (entry ∷ later) all key =
    legal_first (is_on key entry) (get m key) entry (entries_of key later)
    (λ own. all.0 ∙ reply_to_is m entry.op ∙ ap (λ n. reply_from (get m n) entry.op) (its_key (key_of entry.op).0 key own))
    (subst (λ old. AreLegal old (entries_of key later)) (get-applied m entry.op key) (legal_each (applied m entry.op) later all.1 key))

pub legal_by_key : (m : Map) (history : List HistoryEntry) → ((key : ℕ) → AreLegal (get m key) (entries_of key history)) → IsLegal m history
legal_by_key m [] each = tt
legal_by_key m (entry ∷ later) each =
    let k = (key_of entry.op).0 in
    let own = subst (λ es. AreLegal (get m k) es) (cond-true (is_on k entry) (entry ∷ entries_of k later) (entries_of k later) (own_key k)) (each k) in (
      own.0 ∙ sym (reply_to_is m entry.op),
      legal_by_key (applied m entry.op) later (λ key.
          subst (λ old. AreLegal old (entries_of key later)) (sym (get-applied m entry.op key)) (legal_rest (is_on key entry) (get m key) entry (entries_of key later) (each key))),
    )

-- one more entry is legal where it replies what its key's value gives
pub legal_one_more : (m : Map) (earlier : List HistoryEntry) (entry : HistoryEntry) → IsLegal m earlier → entry.reply ≡ reply_from (get (content m earlier) (key_of entry.op).0) entry.op → IsLegal m (earlier ++ entry ∷ [])
legal_one_more m earlier entry all same = IsLegal-push m earlier entry all (same ∙ sym (reply_to_is (content m earlier) entry.op))

pub reply_of_last : (m : Map) (earlier : List HistoryEntry) (entry : HistoryEntry) → IsLegal m (earlier ++ entry ∷ []) → entry.reply ≡ reply_from (get (content m earlier) (key_of entry.op).0) entry.op
reply_of_last m earlier entry all = (IsLegal-later m earlier (entry ∷ []) all).0 ∙ reply_to_is (content m earlier) entry.op

-- what has of each key the first entries of a legal history is legal
pub legal_firsts : (m : Map) (history firsts : List HistoryEntry) → IsLegal m history → ((key : ℕ) → (later : List HistoryEntry) × (entries_of key history ≡ entries_of key firsts ++ later)) → IsLegal m firsts
legal_firsts m history firsts all begins = legal_by_key m firsts (λ key.
    AreLegal-earlier (get m key) (entries_of key firsts) (begins key).0 (subst (λ es. AreLegal (get m key) es) (begins key).1 (legal_each m history all key)))

-- what points keep of a legal history is legal, if on no key an entry that they keep stands after one that they don't
pub legal_kept : (m : Map) (history : List HistoryEntry) (points : List Serial) → IsLegal m history → ((key : ℕ) (earlier later : List HistoryEntry) (entry : HistoryEntry) → entries_of key history ≡ earlier ++ entry ∷ later → is_kept points entry ≡ false → kept later points ≡ []) → IsLegal m (kept history points)
legal_kept m history points all none = legal_firsts m history (kept history points) all (λ key.
    let firsts = firsts_by_test (is_kept points) (entries_of key history) (none key) in
    (firsts.0, firsts.1 ∙ ap (λ es. es ++ firsts.0) (sym (entries_of-kept key history points))))
