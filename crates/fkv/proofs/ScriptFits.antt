-- The operations of a script have numbers that fit in words, and are few.
use Rattle.std.proofs.Common.{◌≡◌, ℕ, ◌+◌, ◌-◌, ◌^◌, ◌<◌, ◌≤◌, Bool, true, false, List, [], ◌∷◌, All, ap, arith, length, map, refl, subst}
use Rattle.std.specs.Prelude.{Some, Result, Ok, Err, if◌then◌else◌}
use Rattle.std.proofs.lemmas.Bool.Decides.{nat_tests}
use Rattle.std.proofs.lemmas.List.Elements.{All-head, All-tail}
use Rattle.fkv_base.specs.declared.faults.ScriptFault.TheVariants.{Size}
use Rattle.fkv_lines.specs.Lines.{later_line, opening_line}
use Rattle.fkv_lines.specs.Numbers.{◌>>=◌}
use Rattle.fkv_lines.specs.Script.{ScriptText, at_line, lines_from, script_from, script_of}
use Rattle.fkv_lines.specs.Words.{is_oversized, lines_of, most_lines, says_nothing, words_of}
use Rattle.fkv_lines.specs.declared.scripts.Line.{Line}
use Rattle.fkv_lines.specs.declared.scripts.Mode.{Mode}
use Rattle.fkv_lines.specs.declared.scripts.Opening.{Opening}
use Rattle.fkv_lines.proofs.Shown.{IsLineOfWords, IsOfWords, script_words}
use Rattle.fkv_map.specs.declared.operations.Op.{Op}
use Rattle.fkv_map.specs.declared.operations.Op.TheVariants.{Upsert, Delete, Add, Max, Read, Merge}
use Rattle.law_program.specs.PlayedCalls.Scripts.{EachFits, SessionOp, op_line}

-- ---- numbers
pub one_fits : (session : ℕ) (op : Op) → IsOfWords op → EachFits ((session, op) ∷ [])
one_fits session (Upsert key value) its = ((its.its_key, its.word), tt)
one_fits session (Delete key) its = (its.its_key, tt)
one_fits session (Add key n) its = ((its.its_key, its.word), tt)
one_fits session (Max key n) its = ((its.its_key, its.word), tt)
one_fits session (Read key) its = (its.its_key, tt)
one_fits session (Merge key which n) its = ((its.its_key, its.word), tt)

each_fits : (ops : List SessionOp) → All IsLineOfWords (map op_line ops) → EachFits ops
each_fits [] all = tt
each_fits (one ∷ later) all = ((one_fits one.0 one.1 (All-head IsLineOfWords (op_line one) (map op_line later) all).1).0, each_fits later (All-tail IsLineOfWords (op_line one) (map op_line later) all))

-- ---- how many lines
ok_is : {A E : Type 0} (a b : A) → ◌≡◌ {A = Result A E} (Ok a) (Ok b) → a ≡ b
ok_is a b e = cc

bound : {A B E : Type 0} (r : Result A E) (f : A → Result B E) (v : B) → (r >>= f) ≡ Ok v → (a : A) × (r ≡ Ok a) × (f a ≡ Ok v)
bound (Ok a) f v e = (a, refl, e)
bound (Err x) f v e = absurd (cc)

no_err : {A E P : Type 0} (f : E) (v : A) → ◌≡◌ {A = Result A E} (Err f) (Ok v) → P
no_err f v e = absurd (cc)

within : (number : ℕ) (line : List ℕ) → is_oversized number line ≡ false → number ≤ most_lines
within number line e = grind (arith, nat_tests, e)

-- no more than are left from this number on
lines_few : (mode : Mode) (opening : Opening) (number : ℕ) (lines : List (List ℕ)) (all : List Line) → lines_from mode opening number lines ≡ Ok all → length all ≤ most_lines + 1 - number
unfolding lines_from
lines_few mode opening number [] all e = let none = ap length (ok_is [] all e) in omega (arith, none)
lines_few mode opening number (one ∷ lines) all e = by_size (is_oversized number one) refl e (lines_few mode opening (number + 1) lines)
  where
    by_words : (c : Bool) → number ≤ most_lines
        → (if c then lines_from mode opening (number + 1) lines else (at_line number (later_line mode opening (words_of one)) >>= λ said. lines_from mode opening (number + 1) lines >>= λ rest. Ok (said ∷ rest))) ≡ Ok all
        → ((rest : List Line) → lines_from mode opening (number + 1) lines ≡ Ok rest → length rest ≤ most_lines + 1 - (number + 1)) → length all ≤ most_lines + 1 - number
    by_words true small is few = let fewer = few all is in omega (arith, fewer)
    by_words false small is few =
        let said = bound (at_line number (later_line mode opening (words_of one))) (λ said. lines_from mode opening (number + 1) lines >>= λ rest. Ok (said ∷ rest)) all is in
        let rest = bound (lines_from mode opening (number + 1) lines) (λ rest. Ok (said.0 ∷ rest)) all said.2 in
        let fewer = few rest.0 rest.1 in
        let many = ap length (ok_is (said.0 ∷ rest.0) all rest.2) in
        omega (arith, fewer, many, small)

    by_size : (c : Bool) → is_oversized number one ≡ c
        → (if c then Err (record { line = number; kind = Size }) else (if says_nothing one then lines_from mode opening (number + 1) lines else (at_line number (later_line mode opening (words_of one)) >>= λ said. lines_from mode opening (number + 1) lines >>= λ rest. Ok (said ∷ rest)))) ≡ Ok all
        → ((rest : List Line) → lines_from mode opening (number + 1) lines ≡ Ok rest → length rest ≤ most_lines + 1 - (number + 1)) → length all ≤ most_lines + 1 - number
    by_size true big is few = no_err _ all is
    by_size false small is few = by_words (says_nothing one) (within number one small) is few

pub script_few : (mode : Mode) (number : ℕ) (lines : List (List ℕ)) (script : ScriptText) → script_from mode number lines ≡ Ok script → length script.lines ≤ most_lines + 1
unfolding script_from
script_few mode number [] script e = let none = ap (λ (x : ScriptText). length x.lines) (ok_is _ script e) in omega (arith, none)
script_few mode number (one ∷ lines) script e = by_size (is_oversized number one) e (script_few mode (number + 1) lines script)
  where
    by_words : (c : Bool)
        → (if c then script_from mode (number + 1) lines else (at_line number (opening_line mode (words_of one)) >>= λ opening. lines_from mode opening (number + 1) lines >>= λ rest. Ok (record { opening = Some opening; lines = rest }))) ≡ Ok script
        → (script_from mode (number + 1) lines ≡ Ok script → length script.lines ≤ most_lines + 1) → length script.lines ≤ most_lines + 1
    by_words true is few = few is
    by_words false is few =
        let opening = bound (at_line number (opening_line mode (words_of one))) (λ opening. lines_from mode opening (number + 1) lines >>= λ rest. Ok (record { opening = Some opening; lines = rest })) script is in
        let rest = bound (lines_from mode opening.0 (number + 1) lines) (λ rest. Ok (record { opening = Some opening.0; lines = rest })) script opening.2 in
        let fewer = lines_few mode opening.0 (number + 1) lines rest.0 rest.1 in
        let same = ap (λ (x : ScriptText). length x.lines) (ok_is (record { opening = Some opening.0; lines = rest.0 }) script rest.2) in
        omega (arith, fewer, same)

    by_size : (c : Bool)
        → (if c then Err (record { line = number; kind = Size }) else (if says_nothing one then script_from mode (number + 1) lines else (at_line number (opening_line mode (words_of one)) >>= λ opening. lines_from mode opening (number + 1) lines >>= λ rest. Ok (record { opening = Some opening; lines = rest })))) ≡ Ok script
        → (script_from mode (number + 1) lines ≡ Ok script → length script.lines ≤ most_lines + 1) → length script.lines ≤ most_lines + 1
    by_size true is few = no_err _ script is
    by_size false is few = by_words (says_nothing one) is few

same_many : (ops : List SessionOp) → length (map op_line ops) ≡ length ops
same_many [] = refl
same_many (one ∷ later) = let rest = same_many later in omega (arith, rest)

-- ---- of a script of operations
pub record AreFitting (ops : List SessionOp) : Type 0 where
  pub fit : EachFits ops
  pub few : length ops < 2 ^ 64 - 1

pub fitting : (mode : Mode) (bytes : List ℕ) (ops : List SessionOp) (script : ScriptText) → script_of mode bytes ≡ Ok script → script.lines ≡ map op_line ops → AreFitting ops
unfolding script_of
fitting mode bytes ops script said lines =
    let few = script_few mode 1 (lines_of bytes) script said in
    let same = ap length lines in
    let many = same_many ops in
    record {
      fit = each_fits ops (subst (λ (x : List Line). All IsLineOfWords x) lines (script_words mode bytes script said).lines);
      few = omega (arith, few, same, many);
    }
