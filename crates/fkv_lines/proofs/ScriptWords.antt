-- The numbers in a script are words of 64 bits.
use Rattle.std.proofs.Common.{◌≡◌, ℕ, zero, suc, ◌+◌, ◌<◌, ◌^◌, Bool, true, false, not, ◌&&◌, List, [], ◌∷◌, length, Option, Some, None, Result, Ok, Err, refl, ap, subst, arith, All}
use Rattle.std.specs.Prelude.{nat_lt, nat_eq, ◌==◌, if◌then◌else◌, slice_index, codes}
use Rattle.std.specs.List.{list_all}
use Rattle.std.specs.Str.{bytes_eq}
use Rattle.std.specs.Str.Parse.{digits_value}
use Rattle.std.specs.Char.{is_ascii_digit}
use Rattle.std.proofs.lemmas.Bool.Decides.{nat_tests}
use Rattle.std.proofs.lemmas.List.Elements.{All-nil, All-cons}
use Rattle.fkv_base.specs.declared.faults.ScriptFault.{ScriptFault}
use Rattle.fkv_base.specs.declared.faults.ScriptFault.TheVariants as fault
use Rattle.fkv_base.specs.declared.commits.CommitKind.TheVariants.{Full, Log}
use Rattle.fkv_map.specs.declared.operations.Call.{Call}
use Rattle.fkv_map.specs.declared.operations.Call.TheVariants as call
use Rattle.fkv_map.specs.declared.operations.Op.{Op}
use Rattle.fkv_map.specs.declared.operations.Op.TheVariants.{Upsert, Delete, Add, Max, Read, Merge}
use Rattle.fkv_map.specs.declared.merges.Merge.TheVariants.{Keep, Min, Sub, And, Or, First}
use Rattle.fkv_lines.specs.declared.scripts.Line.{Line}
use Rattle.fkv_lines.specs.declared.scripts.Line.TheVariants as line
use Rattle.fkv_lines.specs.declared.scripts.Mode.{Mode}
use Rattle.fkv_lines.specs.declared.scripts.Mode.TheVariants.{Memory, File}
use Rattle.fkv_lines.specs.declared.scripts.Opening.{Opening}
use Rattle.fkv_base.specs.declared.classes.StoreClass.{StoreClass}
use Rattle.fkv_base.specs.declared.classes.StoreClass.TheVariants.{Specified, Living}
use Rattle.fkv_lines.specs.declared.scripts.Opening.TheVariants.{Shape, Open}
use Rattle.fkv_lines.specs.declared.scripts.Sizes.{Sizes}
use Rattle.fkv_lines.specs.Words.{words_of, says_nothing, is_oversized}
use Rattle.fkv_lines.specs.Numbers.{◌>>=◌, number_of, numbers_of, arguments_of}
use Rattle.fkv_lines.specs.Calls.{alone, key_in, opens_living, merge_of, operation_of, call_of}
use Rattle.fkv_lines.specs.Lines.{sizes_of, is_opening, shape_line, open_line, opening_line, session_line, commit_line, keeper_line, device_call, crash_line, fail_line, in_memory, later_line}
use Rattle.fkv_lines.specs.Script.{ScriptText, at_line, lines_from, script_from, script_of}
use Rattle.fkv_map.proofs.Shown.{IsWord}

-- the operation's key is a word of 64 bits
abbrev pub IsKeyWord : Op → Type 0
IsKeyWord (Upsert key value) = key.0 < 2 ^ 64
IsKeyWord (Delete key) = key.0 < 2 ^ 64
IsKeyWord (Add key n) = key.0 < 2 ^ 64
IsKeyWord (Max key n) = key.0 < 2 ^ 64
IsKeyWord (Read key) = key.0 < 2 ^ 64
IsKeyWord (Merge key which n) = key.0 < 2 ^ 64

-- an operation whose numbers are words
pub record IsOfWords (op : Op) : Type 0 where
  pub word : IsWord op
  pub its_key : IsKeyWord op

abbrev pub IsCallOfWords : Call → Type 0
IsCallOfWords (call.Op op) = IsOfWords op
IsCallOfWords _ = Unit {0}

-- a line whose numbers are words
abbrev pub IsLineOfWords : Line → Type 0
IsLineOfWords (line.Call session its) = (session < 2 ^ 64) × IsCallOfWords its
IsLineOfWords (line.CrashAt n) = n < 2 ^ 64
IsLineOfWords (line.FailAt n) = n < 2 ^ 64
IsLineOfWords _ = Unit {0}

abbrev pub AreSizesOfWords : Sizes → Type 0
AreSizesOfWords s = (s.bucket_bits < 2 ^ 64) × (s.page < 2 ^ 64) × (s.frames < 2 ^ 64) × (s.mutable < 2 ^ 64) × (s.sessions < 2 ^ 64) × (s.overflow < 2 ^ 64) × (s.disk_pages < 2 ^ 64)

abbrev pub IsOpeningOfWords : Opening → Type 0
IsOpeningOfWords (Shape sizes) = AreSizesOfWords sizes
IsOpeningOfWords Open = Unit {0}

-- ---- results
ok_is : {A E : Type 0} (a b : A) → ◌≡◌ {A = Result A E} (Ok a) (Ok b) → a ≡ b
ok_is a b e = cc

by_if : {A E P : Type 0} (b : Bool) (x y : Result A E) (v : A) → (x ≡ Ok v → P) → (y ≡ Ok v → P) → (if b then x else y) ≡ Ok v → P
by_if true x y v first second e = first e
by_if false x y v first second e = second e

no_err : {A E P : Type 0} (f : E) (v : A) → ◌≡◌ {A = Result A E} (Err f) (Ok v) → P
no_err f v e = absurd (cc)

bound : {A B E : Type 0} (r : Result A E) (f : A → Result B E) (v : B) → (r >>= f) ≡ Ok v → (a : A) × (r ≡ Ok a) × (f a ≡ Ok v)
bound (Ok a) f v e = (a, refl, e)
bound (Err x) f v e = absurd (cc)

-- ---- numbers
test_of : (a b c : Bool) → (a && b && c) ≡ true → c ≡ true
test_of true true c e = e
test_of true false c e = absurd (cc)
test_of false b c e = absurd (cc)

below_of : (a b : ℕ) → nat_lt a b ≡ true → a < b
below_of a b e = grind (arith, nat_tests)

number_by : (b : Bool) (v n : ℕ) → (b ≡ true → v < 2 ^ 64) → (if b then Ok v else Err fault.Number) ≡ Ok n → n < 2 ^ 64
number_by true v n fits e = subst (λ k. k < 2 ^ 64) (ok_is v n e) (fits refl)
number_by false v n fits e = no_err fault.Number n e

number_small : (word : List ℕ) (n : ℕ) → number_of word ≡ Ok n → n < 2 ^ 64
unfolding number_of
number_small word n e =
    number_by (not (length word == 0) && list_all is_ascii_digit word && nat_lt (digits_value 10 word) (2 ^ 64)) (digits_value 10 word) n
    (λ is. below_of (digits_value 10 word) (2 ^ 64) (test_of (not (length word == 0)) (list_all is_ascii_digit word) (nat_lt (digits_value 10 word) (2 ^ 64)) is)) e

-- numbers, and zeros past the last
abbrev AreSmall : List ℕ → Type 0
AreSmall ns = (k : ℕ) → slice_index ns k < 2 ^ 64

small_cons : (n : ℕ) (ns : List ℕ) → n < 2 ^ 64 → AreSmall ns → AreSmall (n ∷ ns)
small_cons n ns first rest zero = first
small_cons n ns first rest (suc k) = rest k

numbers_small : (words : List (List ℕ)) (ns : List ℕ) → numbers_of words ≡ Ok ns → AreSmall ns
numbers_small [] ns e = subst AreSmall (ok_is [] ns e) (λ k. omega arith)
numbers_small (word ∷ words) ns e =
    let first = bound (number_of word) (λ n. numbers_of words >>= λ rest. Ok (n ∷ rest)) ns e in
    let later = bound (numbers_of words) (λ rest. Ok (first.0 ∷ rest)) ns first.2 in
    subst AreSmall (ok_is (first.0 ∷ later.0) ns later.2) (small_cons first.0 later.0 (number_small word first.0 first.1) (numbers_small words later.0 later.1))

arguments_small : (wanted : ℕ) (words : List (List ℕ)) (ns : List ℕ) → arguments_of wanted words ≡ Ok ns → AreSmall ns
unfolding arguments_of
arguments_small wanted words ns e = by_if (length words == wanted) (numbers_of words) (Err fault.Count) ns (numbers_small words ns) (no_err fault.Count ns) e

device_small : (word : List ℕ) (n : ℕ) → device_call word ≡ Ok n → n < 2 ^ 64
unfolding device_call
device_small word n e =
    let found = bound (number_of word) (λ found. if nat_eq found 0 then Err fault.Number else Ok found) n e in
    by_if (nat_eq found.0 0) _ _ n (no_err fault.Number n) (λ is. subst (λ k. k < 2 ^ 64) (ok_is found.0 n is) (number_small word found.0 found.1)) found.2

-- what was made of so many numbers
made : {A : Type 0} (P : A → Type 0) (wanted : ℕ) (words : List (List ℕ)) (f : List ℕ → A) (v : A) → ((ns : List ℕ) → AreSmall ns → P (f ns)) → (arguments_of wanted words >>= λ n. Ok (f n)) ≡ Ok v → P v
made P wanted words f v fits e =
    let ns = bound (arguments_of wanted words) (λ n. Ok (f n)) v e in
    subst P (ok_is (f ns.0) v ns.2) (fits ns.0 (arguments_small wanted words ns.0 ns.1))

alone_words : {A : Type 0} (P : A → Type 0) (words : List (List ℕ)) (only said : A) → P only → alone words only ≡ Ok said → P said
alone_words P words only said fits e =
    by_if (length words == 0) (Ok only) (Err fault.Count) said (λ is. subst P (ok_is only said is) fits) (no_err fault.Count said) e

-- ---- calls
merge_words : (verb : List ℕ) (words : List (List ℕ)) (op : Op) → merge_of verb words ≡ Ok op → IsOfWords op
unfolding merge_of
merge_words verb words op e =
    by_if (bytes_eq verb (codes "keep")) _ _ op (made IsOfWords 1 words (λ n. Merge (key_in n) Keep 0) op (λ ns small. record { word = omega arith; its_key = small 0 }))
    (by_if (bytes_eq verb (codes "min")) _ _ op (made IsOfWords 2 words (λ n. Merge (key_in n) Min (slice_index n 1)) op (λ ns small. record { word = small 1; its_key = small 0 }))
    (by_if (bytes_eq verb (codes "sub")) _ _ op (made IsOfWords 2 words (λ n. Merge (key_in n) Sub (slice_index n 1)) op (λ ns small. record { word = small 1; its_key = small 0 }))
    (by_if (bytes_eq verb (codes "and")) _ _ op (made IsOfWords 2 words (λ n. Merge (key_in n) And (slice_index n 1)) op (λ ns small. record { word = small 1; its_key = small 0 }))
    (by_if (bytes_eq verb (codes "or")) _ _ op (made IsOfWords 2 words (λ n. Merge (key_in n) Or (slice_index n 1)) op (λ ns small. record { word = small 1; its_key = small 0 }))
    (by_if (bytes_eq verb (codes "first")) _ _ op (made IsOfWords 2 words (λ n. Merge (key_in n) First (slice_index n 1)) op (λ ns small. record { word = small 1; its_key = small 0 }))
    (no_err fault.Word op)))))) e

operation_words : (opening : Opening) (verb : List ℕ) (words : List (List ℕ)) (op : Op) → operation_of opening verb words ≡ Ok op → IsOfWords op
unfolding operation_of
operation_words opening verb words op e =
    by_if (bytes_eq verb (codes "up")) _ _ op (made IsOfWords 2 words (λ n. Upsert (key_in n) (record { 0 = slice_index n 1 })) op (λ ns small. record { word = small 1; its_key = small 0 }))
    (by_if (bytes_eq verb (codes "add")) _ _ op (made IsOfWords 2 words (λ n. Add (key_in n) (slice_index n 1)) op (λ ns small. record { word = small 1; its_key = small 0 }))
    (by_if (bytes_eq verb (codes "max")) _ _ op (made IsOfWords 2 words (λ n. Max (key_in n) (slice_index n 1)) op (λ ns small. record { word = small 1; its_key = small 0 }))
    (by_if (bytes_eq verb (codes "del")) _ _ op (made IsOfWords 1 words (λ n. Delete (key_in n)) op (λ ns small. record { word = tt; its_key = small 0 }))
    (by_if (bytes_eq verb (codes "get")) _ _ op (made IsOfWords 1 words (λ n. Read (key_in n)) op (λ ns small. record { word = tt; its_key = small 0 }))
    (by_if (opens_living opening) _ _ op (merge_words verb words op) (no_err fault.Word op)))))) e

call_words : (opening : Opening) (verb : List ℕ) (words : List (List ℕ)) (its : Call) → call_of opening verb words ≡ Ok its → IsCallOfWords its
unfolding call_of
call_words opening verb words its e =
    by_if (bytes_eq verb (codes "refresh")) _ _ its (alone_words IsCallOfWords words call.Refresh its tt)
    (by_if (bytes_eq verb (codes "poll")) _ _ its (alone_words IsCallOfWords words call.Poll its tt)
    (by_if (bytes_eq verb (codes "sleep")) _ _ its (alone_words IsCallOfWords words call.Sleep its tt)
    (by_if (bytes_eq verb (codes "wake")) _ _ its (alone_words IsCallOfWords words call.Wake its tt)
    (λ is.
    let op = bound (operation_of opening verb words) (λ op. Ok (call.Op op)) its is in
    subst IsCallOfWords (ok_is (call.Op op.0) its op.2) (operation_words opening verb words op.0 op.1))))) e

-- ---- lines
session_words : (opening : Opening) (session : List ℕ) (words : List (List ℕ)) (said : Line) → session_line opening session words ≡ Ok said → IsLineOfWords said
unfolding session_line
session_words opening session [] said e = no_err fault.Count said e
session_words opening session (verb ∷ words) said e =
    let its = bound (call_of opening verb words) (λ its. number_of session >>= λ n. Ok (line.Call n its)) said e in
    let n = bound (number_of session) (λ n. Ok (line.Call n its.0)) said its.2 in
    subst IsLineOfWords (ok_is (line.Call n.0 its.0) said n.2) (number_small session n.0 n.1, call_words opening verb words its.0 its.1)

commit_words : (opening : Opening) (words : List (List ℕ)) (said : Line) → commit_line opening words ≡ Ok said → IsLineOfWords said
unfolding commit_line
commit_words opening [] said e = subst IsLineOfWords (ok_is (line.Commit Full) said e) tt
commit_words opening (kind ∷ words) said e =
    by_if (bytes_eq kind (codes "log")) _ _ said (alone_words IsLineOfWords words (line.Commit Log) said tt)
    (by_if (bytes_eq kind (codes "trim") && opens_living opening) _ _ said (alone_words IsLineOfWords words line.Trim said tt) (no_err fault.Word said)) e

keeper_words : (opening : Opening) (words : List (List ℕ)) (said : Line) → keeper_line opening words ≡ Ok said → IsLineOfWords said
unfolding keeper_line
keeper_words opening [] said e = no_err fault.Count said e
keeper_words opening (verb ∷ words) said e =
    by_if (bytes_eq verb (codes "commit")) _ _ said (commit_words opening words said)
    (by_if (bytes_eq verb (codes "turn")) _ _ said (alone_words IsLineOfWords words line.Turn said tt)
    (by_if (bytes_eq verb (codes "finish")) _ _ said (alone_words IsLineOfWords words line.Finish said tt) (no_err fault.Word said))) e

crash_words : (words : List (List ℕ)) (said : Line) → crash_line words ≡ Ok said → IsLineOfWords said
unfolding crash_line
crash_words [] said e = subst IsLineOfWords (ok_is line.Crash said e) tt
crash_words (word ∷ []) said e =
    let n = bound (device_call word) (λ n. Ok (line.CrashAt n)) said e in
    subst IsLineOfWords (ok_is (line.CrashAt n.0) said n.2) (device_small word n.0 n.1)
crash_words (word ∷ next ∷ more) said e = no_err fault.Count said e

fail_words : (words : List (List ℕ)) (said : Line) → fail_line words ≡ Ok said → IsLineOfWords said
unfolding fail_line
fail_words [] said e = no_err fault.Count said e
fail_words (word ∷ []) said e =
    let n = bound (device_call word) (λ n. Ok (line.FailAt n)) said e in
    subst IsLineOfWords (ok_is (line.FailAt n.0) said n.2) (device_small word n.0 n.1)
fail_words (word ∷ next ∷ more) said e = no_err fault.Count said e

memory_words : (mode : Mode) (made said : Line) → IsLineOfWords made → in_memory mode made ≡ Ok said → IsLineOfWords said
unfolding in_memory
memory_words Memory made said fits e = subst IsLineOfWords (ok_is made said e) fits
memory_words File made said fits e = no_err fault.Mode said e

later_words : (mode : Mode) (opening : Opening) (words : List (List ℕ)) (said : Line) → later_line mode opening words ≡ Ok said → IsLineOfWords said
unfolding later_line
later_words mode opening [] said e = no_err fault.Word said e
later_words mode opening (head ∷ words) said e =
    by_if (is_opening head) _ _ said (no_err fault.Order said)
    (by_if (bytes_eq head (codes "crash")) _ _ said (λ is. let crash = bound (crash_line words) (λ made. in_memory mode made) said is in memory_words mode crash.0 said (crash_words words crash.0 crash.1) crash.2)
    (by_if (bytes_eq head (codes "fail")) _ _ said (λ is. let fails = bound (fail_line words) (λ made. in_memory mode made) said is in memory_words mode fails.0 said (fail_words words fails.0 fails.1) fails.2)
    (by_if (bytes_eq head (codes "k")) _ _ said (keeper_words opening words said)
    (by_if (is_ascii_digit (slice_index head 0)) _ _ said (session_words opening head words said) (no_err fault.Word said))))) e

at_line_is : {A : Type 0} (number : ℕ) (r : Result A ScriptFault) (v : A) → at_line number r ≡ Ok v → r ≡ Ok v
at_line_is number (Ok x) v e = ap Ok (ok_is x v e)
at_line_is number (Err kind) v e = absurd (cc)

lines_words : (mode : Mode) (opening : Opening) (number : ℕ) (lines : List (List ℕ)) (all : List Line) → lines_from mode opening number lines ≡ Ok all → All IsLineOfWords all
unfolding lines_from
lines_words mode opening number [] all e = subst (λ ls. All IsLineOfWords ls) (ok_is [] all e) (All-nil IsLineOfWords)
lines_words mode opening number (one ∷ lines) all e =
    by_if (is_oversized number one) _ _ all (no_err _ all)
    (by_if (says_nothing one) _ _ all (lines_words mode opening (number + 1) lines all)
    (λ is.
    let said = bound (at_line number (later_line mode opening (words_of one))) (λ said. lines_from mode opening (number + 1) lines >>= λ rest. Ok (said ∷ rest)) all is in
    let rest = bound (lines_from mode opening (number + 1) lines) (λ rest. Ok (said.0 ∷ rest)) all said.2 in
    subst (λ ls. All IsLineOfWords ls) (ok_is (said.0 ∷ rest.0) all rest.2)
    (All-cons IsLineOfWords said.0 rest.0 (later_words mode opening (words_of one) said.0 (at_line_is number (later_line mode opening (words_of one)) said.0 said.1))
    (lines_words mode opening (number + 1) lines rest.0 rest.1)))) e

-- ---- the line that opens the store
open_words : (mode : Mode) (words : List (List ℕ)) (opening : Opening) → open_line mode words ≡ Ok opening → IsOpeningOfWords opening
unfolding open_line
open_words Memory words opening e = no_err fault.Mode opening (bound (alone words Open) (λ said. Err fault.Mode) opening e).2
open_words File words opening e = alone_words IsOpeningOfWords words Open opening tt e

shape_words : (class : StoreClass) (words : List (List ℕ)) (opening : Opening) → shape_line class words ≡ Ok opening → IsOpeningOfWords opening
unfolding shape_line
shape_words class words opening e = made IsOpeningOfWords 7 words (λ n. Shape (sizes_of class n)) opening (λ ns small. (small 0, small 1, small 2, small 3, small 4, small 5, small 6)) e

opening_words : (mode : Mode) (words : List (List ℕ)) (opening : Opening) → opening_line mode words ≡ Ok opening → IsOpeningOfWords opening
unfolding opening_line
opening_words mode [] opening e = no_err fault.Order opening e
opening_words mode (head ∷ words) opening e =
    by_if (bytes_eq head (codes "shape")) _ _ opening (shape_words Specified words opening)
    (by_if (bytes_eq head (codes "large")) _ _ opening (shape_words Living words opening)
    (by_if (bytes_eq head (codes "open")) _ _ opening (open_words mode words opening) (no_err fault.Order opening))) e

-- ---- the script
abbrev pub HasOpeningOfWords : Option Opening → Type 0
HasOpeningOfWords None = Unit {0}
HasOpeningOfWords (Some opening) = IsOpeningOfWords opening

pub record IsScriptOfWords (script : ScriptText) : Type 0 where
  pub opening : HasOpeningOfWords script.opening
  pub lines : All IsLineOfWords script.lines

from_words : (mode : Mode) (number : ℕ) (lines : List (List ℕ)) (script : ScriptText) → script_from mode number lines ≡ Ok script → IsScriptOfWords script
unfolding script_from
from_words mode number [] script e = subst IsScriptOfWords (ok_is _ script e) (record { opening = tt; lines = All-nil IsLineOfWords })
from_words mode number (one ∷ lines) script e =
    by_if (is_oversized number one) _ _ script (no_err _ script)
    (by_if (says_nothing one) _ _ script (from_words mode (number + 1) lines script)
    (λ is.
    let opening = bound (at_line number (opening_line mode (words_of one))) (λ opening. lines_from mode opening (number + 1) lines >>= λ rest. Ok (record { opening = Some opening; lines = rest })) script is in
    let rest = bound (lines_from mode opening.0 (number + 1) lines) (λ rest. Ok (record { opening = Some opening.0; lines = rest })) script opening.2 in
    subst IsScriptOfWords (ok_is (record { opening = Some opening.0; lines = rest.0 }) script rest.2) (record {
      opening = opening_words mode (words_of one) opening.0 (at_line_is number (opening_line mode (words_of one)) opening.0 opening.1);
      lines = lines_words mode opening.0 (number + 1) lines rest.0 rest.1;
    }))) e

pub script_words : (mode : Mode) (bytes : List ℕ) (script : ScriptText) → script_of mode bytes ≡ Ok script → IsScriptOfWords script
unfolding script_of
script_words mode bytes script e = from_words mode 1 _ script e
