-- What the header of a record says to a sweep.
use Rattle.std.proofs.Common.{◌≡◌, ℕ, ◌<◌, ◌≤◌, ◌^◌, ⊎_elim, refl, ap, arith, Bool, true, false}
use Rattle.std.specs.Prelude.{◌==◌, ◌%◌, ◌/◌, ◌&&◌, if◌then◌else◌, not}
use Rattle.std.proofs.lemmas.Bool.{cases_lt}
use Rattle.std.proofs.lemmas.Bool.Decides.{nat_tests}
use Rattle.fkv_base.specs.declared.numbers.Addr.{Addr}
use Rattle.fkv_base.specs.declared.numbers.Version.{Version}
use Rattle.fkv_record.specs.Begin.{from_or_none}
use Rattle.fkv_record.proofs.Shown.{from_below, from_on}
use Rattle.fkv_sweep.specs.Sweeping as sweep
use Rattle.fkv_words.specs.Fields.{bit_of}
use Rattle.fkv_words.specs.Layout.{header_word}
use Rattle.fkv_words.specs.declared.headers.Header.{Header}
use Rattle.law_commit.specs.Below.fkv_ops.HeaderSaid.TheVariants.{Says, Spoiled}
use Rattle.law_commit.specs.Below.fkv_ops.HeaderWords.{header_said, previous_in, version_in}

-- ---- a header that says an address and a version
-- it has a version
some_version : (word : ℕ) → (word / 2 ^ 48 % 2 ^ 13 == 0) ≡ false → 2 ^ 48 ≤ word
some_version word e = ⊎_elim (λ low. absurd (omega (arith, low, some))) (λ high. high) (cases_lt word (2 ^ 48))
  where
    some : (word / 2 ^ 48 % 2 ^ 13 ≡ 0) → ⊥
    some none = let one : (word / 2 ^ 48 % 2 ^ 13 == 0) ≡ true = grind (arith, nat_tests, none) in cc

pub says_version : (word : ℕ) (previous : Addr) (version : Version) → header_said word ≡ Says previous version → 2 ^ 48 ≤ word
unfolding header_said
says_version word previous version says = by_tests (version_in word == 0) (word / 2 ^ 61 % 2 == 0) (word / 2 ^ 63 == 0) refl says
  where
    by_tests : (a b c : Bool) → (version_in word == 0) ≡ a → (if not a && b && c then Says (record { 0 = previous_in word }) (record { 0 = version_in word }) else Spoiled) ≡ Says previous version → 2 ^ 48 ≤ word
    by_tests false b c e its = some_version word e
    by_tests true b c e its = cc

-- and leads to the address
pub says_previous : (word : ℕ) (previous : Addr) (version : Version) → header_said word ≡ Says previous version → sweep.previous_in word ≡ previous.0
unfolding header_said
says_previous word previous version says = by_tests (not (version_in word == 0)) (word / 2 ^ 61 % 2 == 0) (word / 2 ^ 63 == 0) says
  where
    by_tests : (a b c : Bool) → (if a && b && c then Says (record { 0 = previous_in word }) (record { 0 = version_in word }) else Spoiled) ≡ Says previous version → sweep.previous_in word ≡ previous.0
    by_tests true true true its = let same : record { 0 = previous_in word } ≡ previous = cc in ap (λ (a : Addr). a.0) same
    by_tests true true false its = cc
    by_tests true false c its = cc
    by_tests false b c its = cc

-- ---- the header of a record that wasn't given up has no bit above its version
pub valid_low : (x : Header) → x.invalid ≡ false → header_word x < 2 ^ 61
valid_low x valid =
    let bit : bit_of x.invalid ≡ 0 = ap bit_of valid in
    let fits = x.previous_fits in
    let version = x.version_fits in
    omega (arith, bit, fits, version)

-- ---- where a header leads from a begin on, the record leads too
pub leads_there : (begin to said previous : ℕ) → from_or_none begin said ≡ from_or_none begin previous → begin ≤ to → 0 < to → to ≤ said → said ≡ previous
leads_there begin to said previous same low some on =
    let here : from_or_none begin said ≡ said = from_on begin said (omega (arith, low, on)) in
    ⊎_elim
    (λ below. let nowhere : from_or_none begin previous ≡ 0 = from_below begin previous below in absurd (omega (arith, same, here, nowhere, some, on)))
    (λ above. let there : from_or_none begin previous ≡ previous = from_on begin previous above in omega (arith, same, here, there))
    (cases_lt previous begin)
