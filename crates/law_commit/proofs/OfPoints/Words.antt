-- What the keeper reads in a session's two cut words that show its point.
use Rattle.std.proofs.Common.{◌≡◌, ◌⊎◌, inl, inr, ℕ, ◌+◌, ◌-◌, ◌*◌, ◌/◌, ◌^◌, ◌<◌, ◌≤◌, ◌∙◌, refl, arith, ap, true}
use Rattle.std.specs.Prelude.{max, min}
use Rattle.std.proofs.Math.Nat.{max-eq_left, max-eq_right, max-le, min-eq_left, min-le_right}
use Rattle.std.proofs.lemmas.Bool.Decides.{nat_tests}
use Rattle.fkv_base.specs.Limits.{last_serial}
use Rattle.fkv_marks.specs.Marks.{mark}
use Rattle.fkv_marks.proofs.Shown.{mark_fits}
use Rattle.law_refine.specs.Below.fkv_commit.Cuts.{is_cut, serial_said, version_said}
use Rattle.law_refine.specs.Below.fkv_session.CatchingUp.{cut_at}
use Rattle.law_commit.specs.Points.{IsNextCut}
use Rattle.law_commit.specs.Quiet.{SaysFirst, ShowsPoint, SleepsSince}
use Rattle.law_commit.proofs.OfCuts.Serials.{said_most}

-- ---- a word that is the cut of a version at a serial
is_one : (word : ℕ) → word < 2 ^ 61 → is_cut word ≡ true
is_one word low = let none : word / 2 ^ 61 ≡ 0 = omega (arith, low) in grind (arith, nat_tests, none)

says : (word serial version : ℕ) → word ≡ serial + version * 2 ^ 48 → serial < 2 ^ 48 → version < 2 ^ 13 → (serial_said word ≡ serial) × (version_said word ≡ version)
unfolding serial_said version_said
says word serial version is few low = let cut = is_one word (omega (arith, is, few, low)) in rw cut (omega (arith, is, few), omega (arith, is, few))

both_said : (serial version : ℕ) → (serial_said (cut_at serial version) ≡ min serial last_serial) × (version_said (cut_at serial version) ≡ mark version)
both_said serial version =
    let few = min-le_right serial last_serial in
    says (cut_at serial version) (min serial last_serial) (mark version) refl (omega (arith, few)) (mark_fits version)

pub said_serial : (serial version : ℕ) → serial ≤ last_serial → serial_said (cut_at serial version) ≡ serial
said_serial serial version few = (both_said serial version).0 ∙ min-eq_left few

pub said_version : (serial version : ℕ) → version_said (cut_at serial version) ≡ mark version
said_version serial version = (both_said serial version).1

cut_low : (word serial version point : ℕ) → word ≡ cut_at serial version → serial ≤ point → serial_said word ≤ point
cut_low word serial version point is low = let said = ap serial_said is in let most = said_most serial version in omega (arith, said, most, low)

-- ---- as words go on, the first stays, or becomes the cut of the version at the point; and the other stays, or becomes a cut of the next one
abbrev pub FirstGoesOn : ℕ → ℕ → ℕ → ℕ → Type 0
FirstGoesOn version point first next = (next ≡ first) ⊎ (next ≡ cut_at point version)

abbrev pub OtherGoesOn : ℕ → ℕ → ℕ → Type 0
OtherGoesOn version other next = (next ≡ other) ⊎ IsNextCut version next

-- What the other word says once the first one was met and was of another version: no more than the point, or it is of the next version.
abbrev pub Meets : ℕ → ℕ → ℕ → Type 0
Meets version point other = (serial_said other ≤ point) ⊎ (version_said other ≡ mark (version + 1))

module _ (version before point : ℕ) (small : point ≤ last_serial) where
  -- the first word says no more than the point
  pub first_low : (first other : ℕ) → ShowsPoint version before point first other → serial_said first ≤ point
  first_low first other (SaysFirst is) = cut_low first point version point is (omega arith)
  first_low first other (SleepsSince at less stays (inl slept)) = cut_low first point at point slept.own (omega arith)
  first_low first other (SleepsSince at less stays (inr slept)) = cut_low first slept.serial (at - 1) point slept.before slept.low

  -- of what it shows and the point of the version before the greater is the point
  pub shown_most : (first other : ℕ) → before ≤ point → ShowsPoint version before point first other → max before (serial_said first) ≡ point
  shown_most first other low (SaysFirst is) =
      let said : serial_said first ≡ point = ap serial_said is ∙ said_serial point version small in
      max-eq_right (omega (arith, low, said)) ∙ said
  shown_most first other low (SleepsSince at less stays slept) =
      let most = first_low first other (SleepsSince at less stays slept) in
      max-eq_left (omega (arith, stays, most)) ∙ stays

  -- where it is of another version the session sleeps since an earlier one
  pub first_stays : (first other : ℕ) → ShowsPoint version before point first other → (version_said first ≡ mark version → ⊥) → before ≡ point
  first_stays first other (SaysFirst is) apart = absurd (apart (ap version_said is ∙ said_version point version))
  first_stays first other (SleepsSince at less stays slept) apart = stays

  pub first_meets : (first other : ℕ) → ShowsPoint version before point first other → (version_said first ≡ mark version → ⊥) → Meets version point other
  first_meets first other (SaysFirst is) apart = absurd (apart (ap version_said is ∙ said_version point version))
  first_meets first other (SleepsSince at less stays (inl slept)) apart = inl (cut_low other slept.serial (at - 1) point slept.before slept.low)
  first_meets first other (SleepsSince at less stays (inr slept)) apart = inl (cut_low other point at point slept.own (omega arith))

-- as the other word is loaded, and isn't of the next version
pub other_low : (version point other : ℕ) → Meets version point other → (version_said other ≡ mark (version + 1) → ⊥) → serial_said other ≤ point
other_low version point other (inl low) apart = low
other_low version point other (inr next) apart = absurd (apart next)

-- the words of one whose point stays say no more
pub stays_most : (before point serial : ℕ) → before ≡ point → serial ≤ point → max before serial ≡ point
stays_most before point serial stays low = max-eq_left (omega (arith, stays, low)) ∙ stays

pub both_low : (one other point : ℕ) → one ≤ point → other ≤ point → max one other ≤ point
both_low one other point low less = max-le low less

pub still_meets : (version point other next : ℕ) → OtherGoesOn version other next → Meets version point other → Meets version point next
still_meets version point other next (inr later) meets = let is = ap version_said later.1 in inr (is ∙ said_version later.0 (version + 1))
still_meets version point other next (inl same) (inl low) = let is = ap serial_said same in inl (omega (arith, low, is))
still_meets version point other next (inl same) (inr later) = inr (ap version_said same ∙ later)
