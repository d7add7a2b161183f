-- What is on paper as a life begins is sound.
use Rattle.std.proofs.Common.{◌≡◌, ℕ, ◌*◌, ◌<◌, refl, arith, true}
use Rattle.std.specs.Prelude.{Option, Some, None, slice_get}
use Rattle.fkv_base.specs.declared.numbers.Version.{Version}
use Rattle.fkv_base.specs.declared.phases.Phase.{Phase}
use Rattle.fkv_base.specs.declared.phases.Phase.TheVariants.{Rest}
use Rattle.fkv_epoch.specs.EpochWorld.{epoch_of, safe_of}
use Rattle.law_refine.specs.Below.fkv_session.Sessions.{SessionState}
use Rattle.law_refine.specs.Below.fkv_world.World.{Now}
use Rattle.law_refine.specs.Below.law_world.Guarded.Shows as guard
use Rattle.law_paper.specs.Phases.{Sees, rests}
use Rattle.law_commit.specs.Phases.Projected.{BeginsAtRest, OpeningsAreSound, first_seen, is_there, paper_view, phasing_opened}
use Rattle.law_commit.specs.Ranks.{rank}
use Rattle.law_commit.specs.Views.{view_at}

module _ (n : Now) (start : ℕ) (version : Version) (opened : guard.IsOpened n start) (begins : BeginsAtRest n version) where
  safe_below : safe_of n.words < epoch_of n.words
  safe_below = let safe = opened.words.epochs.nothing_safe in let epoch = opened.words.epochs.first_epoch in omega (arith, safe, epoch)

  epoch_some : 0 < epoch_of n.words
  epoch_some = let epoch = opened.words.epochs.first_epoch in omega (arith, epoch)

  rank_so : (phase : Phase) (seen : Version) → phase ≡ Rest → seen ≡ version → rank phase seen.0 ≡ 5 * version.0
  rank_so phase seen rest same = rw (rest, same) refl

  seen_so : (first : SessionState) → first.seen.phase ≡ Rest → first.seen.version ≡ version → Sees (phasing_opened n version) (paper_view (view_at n.words first.seen.phase first.seen.version))
  seen_so first rest same =
      let its = rank_so first.seen.phase first.seen.version rest same in
      record { after = safe_below; stamped = omega arith; tailed = omega arith; low = omega (arith, its); floor = omega (arith, its); progress = λ none. absurd (omega (arith, none)); pending = λ none. absurd (omega (arith, none)); ending = λ none. absurd (omega (arith, none)) }

  found_so : (session : ℕ) (found : Option SessionState) → slice_get n.sessions session ≡ found → is_there found ≡ true → Sees (phasing_opened n version) (first_seen found n.words)
  found_so session None gone live = cc
  found_so session (Some first) was live = seen_so first (begins.phase session first was) (begins.version_seen session first was)

pub opening_sound : OpeningsAreSound
opening_sound n start version opened begins = record {
  sound = record {
    staged = rests refl refl refl refl refl;
    raised = record { safe = safe_below n start version opened begins; progress = epoch_some n start version opened begins; pending = epoch_some n start version opened begins; ending = epoch_some n start version opened begins };
    views = λ session live. found_so n start version opened begins session (slice_get n.sessions session) refl live;
    coming = λ session comes. cc;
  };
  words = record { epoch = refl; tail = refl; phase = Rest; version = version; says = begins.says; rank = omega arith };
}
