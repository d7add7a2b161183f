-- What a header's word says is what is read where one is spelled.
use Rattle.std.proofs.Common.{◌≡◌, ℕ, ◌+◌, ◌*◌, ◌<◌, ◌^◌, ◌%◌, ◌/◌, arith, refl, Bool, true, false}
use Rattle.std.specs.Prelude.{◌==◌, ◌&&◌, not, if◌then◌else◌, Some}
use Rattle.std.proofs.lemmas.Bool.Decides.{nat_tests}
use Rattle.fkv_words.specs.declared.headers.Header.{Header}
use Rattle.fkv_words.specs.Fields.{bit_of}
use Rattle.fkv_words.specs.Layout.{header_word}
use Rattle.fkv_words.proofs.Shown.{bit_small}
use Rattle.fkv_ops.specs.declared.header_words.HeaderSaid.TheVariants.{Says, Spoiled}
use Rattle.fkv_ops.specs.HeaderWords.{previous_in, version_in, header_said}
use Rattle.fkv_ops.proofs.header_words.header_said.Goals as goal

spelled : (word previous version bit : ℕ) → previous + version * 2 ^ 48 + bit * 2 ^ 62 ≡ word → previous < 2 ^ 48 → 0 < version → version < 2 ^ 13 → bit < 2
    → Says (record { 0 = previous }) (record { 0 = version }) ≡ header_said word
unfolding header_said
spelled word previous version bit its fits some small few =
    let a : word % 2 ^ 48 ≡ previous = omega (arith, its, fits) in
    let d : word / 2 ^ 48 % 2 ^ 13 ≡ version = omega (arith, its, fits, small, few) in
    let some_version : (word / 2 ^ 48 % 2 ^ 13 == 0) ≡ false = grind (arith, nat_tests, d, some) in
    let low : (word / 2 ^ 61 % 2 == 0) ≡ true = (let h : word / 2 ^ 61 % 2 ≡ 0 = omega (arith, its, fits, small, few) in grind (arith, nat_tests, h)) in
    let high : (word / 2 ^ 63 == 0) ≡ true = (let h : word / 2 ^ 63 ≡ 0 = omega (arith, its, fits, small, few) in grind (arith, nat_tests, h)) in
    rw (some_version, low, high, a, d) refl

pub returns-in-Some : goal.returns-in-Some
returns-in-Some c =
    let header = c.in-Some.header in
    let its : header_word header ≡ c.args.word = (c.unpack.ensures header).0 c.in-Some.is in
    spelled c.args.word header.previous.0 header.version.0 (bit_of header.invalid) its header.previous_fits header.some_version header.version_fits (bit_small header.invalid)

pub returns-in-None : goal.returns-in-None
unfolding header_said
returns-in-None c = tested (version_in word == 0) (word / 2 ^ 61 % 2 == 0) (word / 2 ^ 63 == 0) refl refl refl
  where
    word : ℕ
    word = c.args.word

    tested : (a b d : Bool) → (version_in word == 0) ≡ a → (word / 2 ^ 61 % 2 == 0) ≡ b → (word / 2 ^ 63 == 0) ≡ d
        → Spoiled ≡ (if not a && b && d then Says (record { 0 = previous_in word }) (record { 0 = version_in word }) else Spoiled)
    tested true b d ea eb ed = refl
    tested false false d ea eb ed = refl
    tested false true false ea eb ed = refl
    tested false true true ea eb ed = halves (word / 2 ^ 62 % 2 == 0) refl
      where
        halves : (f : Bool) → (word / 2 ^ 62 % 2 == 0) ≡ f → Spoiled ≡ Says (record { 0 = previous_in word }) (record { 0 = version_in word })
        halves f ef =
            let some : 0 < word / 2 ^ 48 % 2 ^ 13 = grind (arith, nat_tests, ea) in
            let low : word / 2 ^ 61 % 2 ≡ 0 = grind (arith, nat_tests, eb) in
            let high : word / 2 ^ 63 ≡ 0 = grind (arith, nat_tests, ed) in
            let h : Header = record { previous = record { 0 = word % 2 ^ 48 }; version = record { 0 = word / 2 ^ 48 % 2 ^ 13 }; invalid = not f; previous_fits = omega arith; some_version = some; version_fits = omega arith } in
            let e : c.unpack.result ≡ Some h = (c.unpack.ensures h).1 (made f ef low high) in
            let n = c.in-None.is in
            cc
          where
            made : (f : Bool) → (word / 2 ^ 62 % 2 == 0) ≡ f → word / 2 ^ 61 % 2 ≡ 0 → word / 2 ^ 63 ≡ 0 → word % 2 ^ 48 + word / 2 ^ 48 % 2 ^ 13 * 2 ^ 48 + bit_of (not f) * 2 ^ 62 ≡ word
            made true ef low high = (let m : word / 2 ^ 62 % 2 ≡ 0 = grind (arith, nat_tests, ef) in omega (arith, m, low, high))
            made false ef low high = (let m : word / 2 ^ 62 % 2 ≡ 1 = (let s : word / 2 ^ 62 % 2 ≡ 0 → ⊥ = grind (arith, nat_tests, ef) in omega (arith, s)) in omega (arith, m, low, high))
