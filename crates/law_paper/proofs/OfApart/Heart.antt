-- At one home no update of an older version is past its walk, or shares its latch, while one of a later version takes effect.
use Rattle.std.proofs.Common.{◌≡◌, inl, inr, ℕ, ◌<◌, true, sym, subst, ◌∙◌, arith, true≢false}
use Rattle.law_log.specs.Ghosts.{Log}
use Rattle.law_log.specs.Enabled.{NoneAbove}
use Rattle.law_log.specs.Trace.{IsIn}
use Rattle.law_paper.specs.Apart.{Trier, Waiter, IsBetween, Knows, HoldsHome, AreTwo, PassesOlder, PassesWaiter, ChangesCopied}

-- who is past its walk and of an older version than one between versions shares its latch
older_shares : (quiet : ℕ) (log : Log) (r s : Trier) → AreTwo r s → Knows quiet log s → IsBetween r.rank r.version → s.is_past ≡ true → s.version < r.version → s.shares ≡ true
older_shares quiet log r s two knows between past older = elim knows.its_rank [
  | inl (inl flush) ↦ absurd (let c = two.close between in omega (arith, c, flush, older))
  | inl (inr (inl rest)) ↦ absurd (let c = two.close between in omega (arith, c, rest, older))
  | inl (inr (inr prepare)) ↦ knows.prepares past prepare
  | inr (inl (inl progress)) ↦ absurd (let c = two.close between in omega (arith, c, progress, older))
  | inr (inl (inr pending)) ↦ absurd (let c = two.close between in omega (arith, c, pending, older))
  | inr (inr polls) ↦ knows.polls past polls
]

-- At a home that has no version above an older one, whose request is left, one takes effect only between versions. It holds its latch alone then.
holds_latch : (quiet : ℕ) (log : Log) (r : Trier) (h version : ℕ) → Knows quiet log r → HoldsHome log r → r.home ≡ h → NoneAbove log h version → quiet < version → version < r.version
    → IsBetween r.rank r.version × (r.owns ≡ true)
holds_latch quiet log r h version knows holds same above there older = elim knows.its_rank [
  | inl settled ↦ absurd (let low = knows.settled settled in omega (arith, low, there, older))
  | inr (inr polled) ↦ absurd (let low = knows.polled polled in omega (arith, low, there, older))
  | inr (inl between) ↦ elim (holds between) [
    | inl owns ↦ (between, owns)
    | inr stands ↦ absurd (
        let low = above stands.0 (subst (λ (n : ℕ). IsIn stands.0 (log.chains n)) same stands.1) in
        let is = stands.2 in
        omega (arith, low, is, older))
  ]
]

pub none_older : (quiet : ℕ) (log : Log) (r s : Trier) → PassesOlder quiet log r s → ⊥
none_older quiet log r s passes =
    let other = passes.other in
    let held = holds_latch quiet log r s.home s.version passes.takes_effect passes.holds passes.same (other.none_above passes.past) other.there passes.older in
    let two = passes.two in
    true≢false (sym (older_shares quiet log r s two other held.0 passes.past passes.older) ∙ (two.apart passes.same held.1).0)

pub none_waits : (quiet : ℕ) (log : Log) (r : Trier) (w : Waiter) → PassesWaiter quiet log r w → ⊥
none_waits quiet log r w passes =
    let other = passes.other in
    let held = holds_latch quiet log r w.home w.version passes.takes_effect passes.holds passes.same (other.none_above passes.shares) other.there passes.older in
    true≢false (sym passes.shares ∙ passes.apart passes.same held.1)

pub none_copies : (quiet : ℕ) (log : Log) (r s : Trier) (x : ℕ) → ChangesCopied quiet log r s x → ⊥
none_copies quiet log r s x changes = elim (changes.alone x changes.copies) [
  | inl fixed ↦ changes.mutable fixed
  | inr (_, inr silent) ↦ absurd (let there = (let other = changes.other in other.there) in let its = changes.its_version in omega (arith, its, silent, there))
  | inr (low, inl owns) ↦
      let two = changes.two in
      let older : s.version < r.version = (let its = changes.its_version in omega (arith, its, low)) in
      let between = (let copier = changes.copier in copier.owner owns) in
      true≢false (sym (older_shares quiet log r s two changes.other between changes.past older) ∙ (two.apart changes.same owns).0)
]
