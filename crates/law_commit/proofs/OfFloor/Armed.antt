-- An action that stores a phase is armed no earlier than at the raise for it.
use Rattle.std.proofs.Common.{◌≡◌, ◌⊎◌, inl, inr, ℕ, ◌+◌, ◌*◌, ◌<◌, ◌≤◌, ◌∙◌, List, refl, arith, sym, ap, subst}
use Rattle.std.specs.Prelude.{⊤, Option, Some, None}
use Rattle.fkv_base.specs.Limits.{last_version}
use Rattle.fkv_base.specs.declared.numbers.Version.{Version}
use Rattle.fkv_base.specs.declared.phases.Phase.{Phase}
use Rattle.fkv_base.specs.declared.phases.Phase.TheVariants.{InProgress, WaitPending}
use Rattle.fkv_plane.specs.declared.actions.Action.{Action}
use Rattle.fkv_plane.specs.declared.actions.Action.TheVariants as act
use Rattle.fkv_plane.specs.Plane.{action_at}
use Rattle.law_refine.specs.Below.fkv_commit.Commits.{version_after}
use Rattle.fkv_epoch.specs.EpochWorld.{Armed, epoch_of}
use Rattle.fkv_epoch.specs.Once.{Among}
use Rattle.law_refine.specs.Below.fkv_flush.GuardWorld.{GuardEvent, GuardWorld, guard_run}
use Rattle.law_refine.proofs.Below.fkv_flush.Shown.{IsAboutToArm, IsSound}
use Rattle.law_refine.specs.Below.fkv_world.World.{Now}
use Rattle.law_refine.specs.Below.law_world.Guarded.Shows.{Shows}
use Rattle.law_refine.proofs.Below.law_world.OfGuarded.OneStep.{IsStepOf}
use Rattle.law_commit.specs.Phases.Staged.{DefersPending, DefersProgress, Flushes, InSlot, OnlyOut, Pends, Prepares, Progresses, Rests, Stage, held, phase_in, stage_out}
use Rattle.law_commit.specs.Ranks.{rank}
use Rattle.law_commit.proofs.OfFloor.ArmedSince.{about_since, step_armed}

-- the rank of the phase that is stored last at a stage, or is to be by the action that is out
abbrev pub stage_reach : Version → Stage → ℕ
stage_reach number Rests = 5 * number.0
stage_reach number Prepares = 5 * number.0 + 1
stage_reach number DefersProgress = 5 * number.0 + 2
stage_reach number Progresses = 5 * number.0 + 2
stage_reach number DefersPending = 5 * number.0 + 3
stage_reach number Pends = 5 * number.0 + 3
stage_reach number Flushes = 5 * number.0 + 4

-- an action stores a phase of this rank at most, or of one above
abbrev pub RanksUpto : ℕ → Action → Type 0
RanksUpto reach (act.Phase phase version) = rank phase version.0 ≤ reach
RanksUpto reach action = ⊤

abbrev pub RanksAbove : ℕ → Action → Type 0
RanksAbove reach (act.Phase phase version) = reach < rank phase version.0
RanksAbove reach action = ⊥

-- What is armed stores no later phase than the stage reaches. The action that is out is armed no earlier than at the raise for it.
pub record ArmedSo (w : GuardWorld) (number : Version) (stage : Stage) (due : ℕ) : Type 0 where
  pub low : (y : Armed) → Among y w.past.armed → RanksUpto (stage_reach number stage) y.action
  pub since : (y : Armed) → Among y w.past.armed → Some y.action ≡ stage_out number stage → due ≤ y.epoch
  pub about : (by slot epoch : ℕ) (action : Action) → IsAboutToArm w.now by slot epoch action → Some action ≡ stage_out number stage → due ≤ epoch

-- where a step leads: the action that is out then was out before, or it stores a later phase
abbrev pub OutFrom : Version → Stage → ℕ → ℕ → Action → Type 0
OutFrom number stage due later action = ((Some action ≡ stage_out number stage) × (later ≤ due)) ⊎ RanksAbove (stage_reach number stage) action

pub record Onward (number next : Version) (stage after : Stage) (due later epoch : ℕ) : Type 0 where
  pub reach : stage_reach number stage ≤ stage_reach next after
  pub low : later ≤ epoch
  pub out : (action : Action) → Some action ≡ stage_out next after → OutFrom number stage due later action

action_same : {x y : Action} → ◌≡◌ {A = Option Action} (Some x) (Some y) → x ≡ y
action_same e = cc

rank_same : (phase other : Phase) (version also : Version) → act.Phase phase version ≡ act.Phase other also → rank phase version.0 ≡ rank other also.0
rank_same phase other version also e = let a : phase ≡ other = cc in let b : version ≡ also = cc in rw (a, b) refl

out_low : (number : Version) (stage : Stage) (phase : Phase) (version : Version) → Some (act.Phase phase version) ≡ stage_out number stage → rank phase version.0 ≤ stage_reach number stage
out_low number DefersProgress phase version is = let same = rank_same phase InProgress version (version_after number) (action_same is) in omega (arith, same)
out_low number DefersPending phase version is = let same = rank_same phase WaitPending version (version_after number) (action_same is) in omega (arith, same)
out_low number Rests phase version is = cc
out_low number Prepares phase version is = cc
out_low number Progresses phase version is = cc
out_low number Pends phase version is = cc
out_low number Flushes phase version is = cc

not_both : (reach : ℕ) (action : Action) → RanksUpto reach action → RanksAbove reach action → ⊥
not_both reach (act.Phase phase version) low above = omega (arith, low, above)
not_both reach (act.SafeReadOnly addr) low above = above
not_both reach (act.Close addr) low above = above

upto_more : (reach more : ℕ) (action : Action) → reach ≤ more → RanksUpto reach action → RanksUpto more action
upto_more reach more (act.Phase phase version) up low = omega (arith, up, low)
upto_more reach more (act.SafeReadOnly addr) up low = tt
upto_more reach more (act.Close addr) up low = tt

module _ (n : Now) (w : GuardWorld) (number next : Version) (stage after : Stage) (due later : ℕ) (shows : Shows n w) (only : OnlyOut (held n) (stage_out number stage)) (so : ArmedSo w number stage due)
    (on : Onward number next stage after due later (epoch_of w.now.words)) where
  home_out : (slot : ℕ) (phase : Phase) (version : Version) → action_at w.now.actions slot ≡ Some (act.Phase phase version) → Some (act.Phase phase version) ≡ stage_out number stage
  home_out slot phase version home =
      only.its_own (InSlot slot) (act.Phase phase version) (ap phase_in (subst (λ (actions : List (Option Action)). action_at actions slot ≡ Some (act.Phase phase version)) shows.actions home))

  home_low : (slot : ℕ) (action : Action) → action_at w.now.actions slot ≡ Some action → RanksUpto (stage_reach number stage) action
  home_low slot (act.Phase phase version) home = out_low number stage phase version (home_out slot phase version home)
  home_low slot (act.SafeReadOnly addr) home = tt
  home_low slot (act.Close addr) home = tt

  about_since_due : (by slot epoch : ℕ) (action : Action) → IsAboutToArm w.now by slot epoch action → Some action ≡ stage_out next after → later ≤ epoch
  about_since_due by slot epoch action about is = elim (on.out action is) [
    | inl same ↦ let h = so.about by slot epoch action about same.0 in let low = same.1 in omega (arith, h, low)
    | inr new ↦ absurd (not_both (stage_reach number stage) action (home_low slot action about.1) new)
  ]

  pub armed_on : (P : GuardEvent → Type 0) (a : ℕ) (events : List GuardEvent) → IsSound w → IsStepOf P a events → ArmedSo (guard_run w events) next after later
  armed_on P a events sound step = record {
    low = λ y among. upto_more (stage_reach number stage) (stage_reach next after) y.action on.reach (elim (step_armed P a w events y step among) [
      | inl old ↦ so.low y old
      | inr now ↦ home_low y.slot y.action now.about.1
    ]);
    since = λ y among is. elim (step_armed P a w events y step among) [
      | inl old ↦ elim (on.out y.action is) [
        | inl same ↦ let h = so.since y old same.0 in let low = same.1 in omega (arith, h, low)
        | inr new ↦ absurd (not_both (stage_reach number stage) y.action (so.low y old) new)
      ]
      | inr now ↦ about_since_due now.by y.slot y.epoch y.action now.about is
    ];
    about = λ by slot epoch action about is. elim (about_since w events by slot epoch action sound about) [
      | inl was ↦ about_since_due by slot epoch action was is
      | inr up ↦ let low = on.low in omega (arith, low, up)
    ];
  }

-- ---- the steps that there are
pub stays_onward : (number : Version) (stage : Stage) (due later epoch : ℕ) → later ≡ due → due ≤ epoch → Onward number number stage stage due later epoch
stays_onward number stage due later epoch same low = record { reach = omega arith; low = omega (arith, same, low); out = λ action is. inl (is, omega (arith, same)) }

pub none_onward : (number next : Version) (stage after : Stage) (due later epoch : ℕ) → stage_reach number stage ≤ stage_reach next after → later ≤ epoch → stage_out next after ≡ None → Onward number next stage after due later epoch
none_onward number next stage after due later epoch reach low none = record { reach = reach; low = low; out = λ action is. let clash : Some action ≡ None = is ∙ none in cc }

above_after : (number : Version) → number.0 < last_version → (version_after number).0 ≡ number.0 + 1
above_after number low = omega (arith, low)

pub progress_onward : (number : Version) (due later epoch : ℕ) → number.0 < last_version → later ≤ epoch → Onward number number Prepares DefersProgress due later epoch
progress_onward number due later epoch fits low = record {
  reach = omega arith;
  low = low;
  out = λ action is. inr (subst (λ (x : Action). RanksAbove (5 * number.0 + 1) x) (sym (action_same is)) (let up = above_after number fits in omega (arith, up)));
}

pub pending_onward : (number : Version) (due later epoch : ℕ) → number.0 < last_version → later ≤ epoch → Onward number number Progresses DefersPending due later epoch
pending_onward number due later epoch fits low = record {
  reach = omega arith;
  low = low;
  out = λ action is. inr (subst (λ (x : Action). RanksAbove (5 * number.0 + 2) x) (sym (action_same is)) (let up = above_after number fits in omega (arith, up)));
}

above_less : (reach less : ℕ) (action : Action) → less ≤ reach → RanksAbove reach action → RanksAbove less action
above_less reach less (act.Phase phase version) low above = omega (arith, low, above)
above_less reach less (act.SafeReadOnly addr) low above = above
above_less reach less (act.Close addr) low above = above

-- one behind the other
pub onward_on : (number between next : Version) (stage at after : Stage) (due middle later epoch : ℕ) → Onward number between stage at due middle epoch → Onward between next at after middle later epoch → Onward number next stage after due later epoch
onward_on number between next stage at after due middle later epoch one other = record {
  reach = let a = one.reach in let b = other.reach in omega (arith, a, b);
  low = other.low;
  out = λ action is. elim (other.out action is) [
    | inl same ↦ elim (one.out action same.0) [
      | inl too ↦ inl (too.0, let a = same.1 in let b = too.1 in omega (arith, a, b))
      | inr above ↦ inr above
    ]
    | inr above ↦ inr (above_less (stage_reach between at) (stage_reach number stage) action one.reach above)
  ];
}
