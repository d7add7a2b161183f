-- Which histories are whole.
use Rattle.std.proofs.Common.{◌≡◌, ℕ, ◌+◌, ◌≤◌, max, Bool, true, false, cond, ◌&&◌, List, [], ◌∷◌, ◌++◌, refl, sym, ap, ◌∙◌, arith}
use Rattle.std.specs.Prelude.{nat_eq, nat_lt, nat_le}
use Rattle.std.specs.List.{count_by}
use Rattle.std.proofs.lemmas.Bool.Decides.{nat_tests}
use Rattle.std.proofs.lemmas.List.Sums.{sum_by-cons}
use Rattle.fkv_base.specs.declared.numbers.Serial.{Serial}
use Rattle.fkv_map.specs.declared.history.HistoryEntry.{HistoryEntry}
use Rattle.fkv_map.specs.History.{kept, is_kept, point_of, is_update, IsWhole, greatest_serial, HasEachOnce, AreAtMost}
use Rattle.fkv_map.proofs.KeptEntries.{count-append, count-push, kept-append, kept_again, kept_by_more}

-- ---- counts
abbrev mark : Bool → ℕ
mark b = cond b 1 0

-- an entry is counted among the kept where it is kept; the entries of this session and serial all are, or none is
count_first : (is keeps within : Bool) (before after : ℕ) → (is ≡ true → keeps ≡ within) → before ≡ cond within after 0 → cond keeps (mark is + before) before ≡ cond within (mark is + after) 0
count_first true true true before after same e = omega (arith, e)
count_first true true false before after same e = absurd (let off : true ≡ false = same refl in cc)
count_first true false true before after same e = absurd (let off : false ≡ true = same refl in cc)
count_first true false false before after same e = e
count_first false true true before after same e = omega (arith, e)
count_first false true false before after same e = omega (arith, e)
count_first false false true before after same e = omega (arith, e)
count_first false false false before after same e = e

count_of_cond : (test : HistoryEntry → Bool) (keeps : Bool) (entry : HistoryEntry) (rest : List HistoryEntry) → count_by test (cond keeps (entry ∷ rest) rest) ≡ cond keeps (mark (test entry) + count_by test rest) (count_by test rest)
count_of_cond test true entry rest = sum_by-cons (λ e. cond (test e) 1 0) entry rest
count_of_cond test false entry rest = refl

its_test : (points : List Serial) (session serial : ℕ) (entry : HistoryEntry) → is_update session serial entry ≡ true → is_kept points entry ≡ nat_le serial (point_of points session)
its_test points session serial entry is =
    let s : entry.session ≡ session = grind (arith, nat_tests) in
    let i : entry.serial.0 ≡ serial = grind (arith, nat_tests) in
    ap (λ n. nat_le n (point_of points entry.session)) i ∙ ap (λ n. nat_le serial (point_of points n)) s

-- what points keep has a session's serial as often as the history, if it is at most the session's point, and else never
pub count_kept : (history : List HistoryEntry) (points : List Serial) (session serial : ℕ) → count_by (is_update session serial) (kept history points) ≡ cond (nat_le serial (point_of points session)) (count_by (is_update session serial) history) 0
count_kept [] points session serial = grind (arith, nat_tests)
count_kept (entry ∷ later) points session serial =
    let test = is_update session serial in
    count_of_cond test (is_kept points entry) entry (kept later points)
    ∙ count_first (test entry) (is_kept points entry) (nat_le serial (point_of points session)) (count_by test (kept later points)) (count_by test later) (its_test points session serial entry) (count_kept later points session serial)
    ∙ ap (λ n. cond (nat_le serial (point_of points session)) n 0) (sym (count_of_cond test true entry later))

-- ---- whole
-- the count that a whole history has, at and below the point and above it
at_most : (serial point count : ℕ) (above : Bool) → serial ≤ point → cond (nat_le serial point) count 0 ≡ cond (above && nat_le serial point) 1 0 → count ≡ cond above 1 0
at_most serial point count above low same = grind (arith, nat_tests)

whole_there : (serial point count : ℕ) (above : Bool) → (serial ≤ point → count ≡ cond above 1 0) → cond (nat_le serial point) count 0 ≡ cond (above && nat_le serial point) 1 0
whole_there serial point count above has = grind (arith, nat_tests)

pub count_of_whole : (history : List HistoryEntry) (opening points : List Serial) → IsWhole history opening points → (session serial : ℕ) → serial ≤ point_of points session → count_by (is_update session serial) history ≡ cond (nat_lt (point_of opening session) serial) 1 0
count_of_whole history opening points whole session serial low =
    at_most serial (point_of points session) (count_by (is_update session serial) history) (nat_lt (point_of opening session) serial) low (sym (count_kept history points session serial) ∙ whole session serial)

pub whole_by_count : (history : List HistoryEntry) (opening points : List Serial) → ((session serial : ℕ) → serial ≤ point_of points session → count_by (is_update session serial) history ≡ cond (nat_lt (point_of opening session) serial) 1 0) → IsWhole history opening points
whole_by_count history opening points has = λ session serial.
    count_kept history points session serial
    ∙ whole_there serial (point_of points session) (count_by (is_update session serial) history) (nat_lt (point_of opening session) serial) (has session serial)

-- ---- each serial once
pub greatest_serial-push : (history : List HistoryEntry) (entry : HistoryEntry) (session : ℕ) → greatest_serial (history ++ entry ∷ []) session ≡ cond (nat_eq entry.session session) (max entry.serial.0 (greatest_serial history session)) (greatest_serial history session)
greatest_serial-push [] entry session = refl
greatest_serial-push (first ∷ later) entry session =
    ap (λ n. cond (nat_eq first.session session) (max first.serial.0 n) n) (greatest_serial-push later entry session)
    ∙ greatest_of (nat_eq first.session session) (nat_eq entry.session session) first.serial.0 entry.serial.0 (greatest_serial later session)
  where
    greatest_of : (a b : Bool) (x y n : ℕ) → cond a (max x (cond b (max y n) n)) (cond b (max y n) n) ≡ cond b (max y (cond a (max x n) n)) (cond a (max x n) n)
    greatest_of true true x y n = omega arith
    greatest_of true false x y n = refl
    greatest_of false true x y n = refl
    greatest_of false false x y n = refl

within_both : (serial point opening last : ℕ) → serial ≤ point → point ≤ max opening last → mark (nat_lt opening serial && nat_le serial last) ≡ mark (nat_lt opening serial)
within_both serial point opening last low high = grind (arith, nat_tests)

pub whole_of_each_once : (history : List HistoryEntry) (opening points : List Serial) → HasEachOnce history opening → ((session : ℕ) → point_of points session ≤ max (point_of opening session) (greatest_serial history session)) → IsWhole history opening points
whole_of_each_once history opening points once within = whole_by_count history opening points (λ session serial low.
    once session serial ∙ within_both serial (point_of points session) (point_of opening session) (greatest_serial history session) low (within session))

-- an empty history has each serial once
none_above : (opening serial : ℕ) → 0 ≡ mark (nat_lt opening serial && nat_le serial 0)
none_above opening serial = grind (arith, nat_tests)

pub each_once_none : (opening : List Serial) → HasEachOnce [] opening
each_once_none opening = λ session serial. none_above (point_of opening session) serial

next_serial : (opening last serial its : ℕ) → its ≡ max opening last + 1 → mark (nat_lt opening serial && nat_le serial last) + mark (nat_eq its serial) ≡ mark (nat_lt opening serial && nat_le serial (max its last))
next_serial opening last serial its next = grind (arith, nat_tests)

-- the count of a session's serial after one more entry: of that session, and of another
push_count : (own : Bool) (s t : ℕ) (opening last : ℕ → ℕ) (serial its : ℕ) → nat_eq s t ≡ own → its ≡ max (opening s) (last s) + 1 →
    mark (nat_lt (opening t) serial && nat_le serial (last t)) + mark (own && nat_eq its serial) ≡ mark (nat_lt (opening t) serial && nat_le serial (cond own (max its (last t)) (last t)))
push_count true s t opening last serial its is next =
    let same : s ≡ t = grind (arith, nat_tests) in
    next_serial (opening t) (last t) serial its (next ∙ ap (λ n. max (opening n) (last n) + 1) same)
push_count false s t opening last serial its is next = omega arith

pub each_once_more : (history : List HistoryEntry) (opening : List Serial) (entry : HistoryEntry) → HasEachOnce history opening → entry.serial.0 ≡ max (point_of opening entry.session) (greatest_serial history entry.session) + 1 → HasEachOnce (history ++ entry ∷ []) opening
each_once_more history opening entry once next = λ session serial.
    count-push (is_update session serial) history entry
    ∙ ap (λ n. n + mark (is_update session serial entry)) (once session serial)
    ∙ push_count (nat_eq entry.session session) entry.session session (point_of opening) (greatest_serial history) serial entry.serial.0 refl next
    ∙ ap (λ n. mark (nat_lt (point_of opening session) serial && nat_le serial n)) (sym (greatest_serial-push history entry session))

-- ---- lives
two_parts : (opening between points serial : ℕ) → opening ≤ between → serial ≤ points → mark (nat_lt opening serial && nat_le serial between) + mark (nat_lt between serial && nat_le serial points) ≡ mark (nat_lt opening serial)
two_parts opening between points serial first low = grind (arith, nat_tests)

-- what two lives keep is whole, if the later was opened at the points of the earlier
pub whole_of_lives : (earlier later : List HistoryEntry) (opening between points : List Serial) → IsWhole earlier opening between → IsWhole later between points → AreAtMost opening between → IsWhole (kept earlier between ++ kept later points) opening points
whole_of_lives earlier later opening between points first second rises = whole_by_count (kept earlier between ++ kept later points) opening points (λ session serial low.
    count-append (is_update session serial) (kept earlier between) (kept later points)
    ∙ ap (λ n. n + count_by (is_update session serial) (kept later points)) (first session serial)
    ∙ ap (λ n. mark (nat_lt (point_of opening session) serial && nat_le serial (point_of between session)) + n) (second session serial)
    ∙ two_parts (point_of opening session) (point_of between session) (point_of points session) serial (rises session) low)

-- and the last points keep all of it
pub kept_of_lives : (earlier later : List HistoryEntry) (between points : List Serial) → AreAtMost between points → kept (kept earlier between ++ kept later points) points ≡ kept earlier between ++ kept later points
kept_of_lives earlier later between points rises =
    kept-append (kept earlier between) (kept later points) points
    ∙ ap (λ es. es ++ kept (kept later points) points) (kept_by_more earlier between points rises)
    ∙ ap (λ es. kept earlier between ++ es) (kept_again later points)
