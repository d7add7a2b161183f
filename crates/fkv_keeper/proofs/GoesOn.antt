-- A part of every turn that asks for a word leads no further, and neither does a flush that has loaded a record's word. Behind such a word, and behind one
-- of a copy or a sweep, no action is moved.
use Rattle.std.proofs.Common.{◌≡◌, ◌≢◌, ◌⊎◌, ℕ, Bool, inl, inr, refl, sym, ap, subst, ◌∙◌}
use Rattle.std.specs.Prelude.{⊤, if◌then◌else◌, Option, Some, None}
use Rattle.std.proofs.lemmas.Option.{none-some, same_Some}
use Rattle.fkv_base.specs.declared.shapes.Shape.{Shape}
use Rattle.fkv_plane.specs.declared.asks.Ask.{Ask}
use Rattle.fkv_plane.specs.declared.asks.Ask.TheVariants.{Load, Store, Swap, Cas, Add, Max, Put, Take, Done}
use Rattle.fkv_plane.specs.declared.places.Places.{Places}
use Rattle.fkv_plane.specs.Passing.{passed}
use Rattle.fkv_plane.specs.declared.actions.Action.{Action}
use Rattle.fkv_checkpoint.specs.declared.copying.CopyStep.{CopyStep}
use Rattle.fkv_checkpoint.specs.declared.copying.CopyStep.TheVariants.{LoadsSlot, LoadsLink, Ended as CopyEnded}
use Rattle.fkv_checkpoint.specs.Copying.{Copier, copy_step_ask, step_word_due}
use Rattle.fkv_sweep.proofs.Shown.{sweep_puts_none, sweep_takes_none}
use Rattle.fkv_sweep.specs.declared.sweeping.SweepAnswer.{SweepAnswer}
use Rattle.fkv_sweep.specs.declared.sweeping.SweepAnswer.TheVariants as sweep
use Rattle.fkv_sweep.specs.AsksLeft.{is_through}
use Rattle.fkv_sweep.specs.Sweeping.{load_place, sweep_ask, sweep_next, sweep_word_due}
use Rattle.fkv_maintain.specs.declared.maintaining.MaintainAnswer.{MaintainAnswer}
use Rattle.fkv_maintain.specs.declared.maintaining.MaintainAnswer.TheVariants.{Device as MaintainDevice}
use Rattle.fkv_maintain.specs.Maintaining.{maintain_ask, maintain_next, maintain_word_due}
use Rattle.fkv_maintain.proofs.Shown as parts
use Rattle.fkv_keeper.specs.declared.answers.KeeperTold.{KeeperTold}
use Rattle.fkv_keeper.specs.declared.keepers.Keeping.{Keeping}
use Rattle.fkv_keeper.specs.declared.keepers.Keeping.TheVariants.{Ended, Starts, Maintains, LoadsPhase, Enters, Copies, Seeks, Waits, Writes, Finishes, Sweeps}
use Rattle.fkv_keeper.specs.Keeping.{KeeperState, copy_asked, copy_driven, copy_due, copy_ledto, copy_told, device_passed, keeper_ask, keeper_next, keeper_word_due, keeping_ask, keeping_next, maintain_ledto, sweep_ledto, sweep_passed, turn_over, turned, word_due_at}

pub maintain_goes_on : (s : KeeperState) (ask : Ask MaintainAnswer) → ((its : MaintainAnswer) → ask ≢ Done its) → maintain_ledto s ask ≡ s
unfolding maintain_ledto
maintain_goes_on s (Load place) asks = refl
maintain_goes_on s (Store place new) asks = refl
maintain_goes_on s (Swap place new) asks = refl
maintain_goes_on s (Cas place old new) asks = refl
maintain_goes_on s (Add place number) asks = refl
maintain_goes_on s (Max place number) asks = refl
maintain_goes_on s (Put slot action) asks = refl
maintain_goes_on s (Take slot) asks = refl
maintain_goes_on s (Done its) asks = absurd (asks its refl)

-- a word is due in the parts of every turn, in a copy of the index, and in a sweep
abbrev DuePart : Places → KeeperState → Keeping → ℕ → Type 0
DuePart p s step place =
    ((step ≡ Maintains) × (maintain_word_due p s.maintain ≡ Some place)) ⊎ (((step ≡ Copies) × (copy_due s.copy ≡ Some place)) ⊎ ((step ≡ Sweeps) × (sweep_word_due s.sweep ≡ Some place)))

due_parts : (p : Places) (s : KeeperState) (step : Keeping) (place : ℕ) → word_due_at p s step ≡ Some place → DuePart p s step place
due_parts p s Maintains place due = inl (refl, due)
due_parts p s (Ended its) place due = absurd (none-some place due)
due_parts p s Starts place due = absurd (none-some place due)
due_parts p s LoadsPhase place due = absurd (none-some place due)
due_parts p s Enters place due = absurd (none-some place due)
due_parts p s Copies place due = inr (inl (refl, due))
due_parts p s Seeks place due = absurd (none-some place due)
due_parts p s Waits place due = absurd (none-some place due)
due_parts p s Writes place due = absurd (none-some place due)
due_parts p s Finishes place due = absurd (none-some place due)
due_parts p s Sweeps place due = inr (inr (refl, due))

led_no_further : (s : KeeperState) (ask : Ask MaintainAnswer) → parts.IsLoadOrCall MaintainDevice ask → maintain_ledto s ask ≡ s
unfolding maintain_ledto
led_no_further s ask (inl (place, is)) = ap (maintain_ledto s) is
led_no_further s ask (inr is) = ap (maintain_ledto s) is

-- Behind a record's word the parts of every turn alone have gone on.
pub word_goes_on : (shape : Shape) (p : Places) (s : KeeperState) (place word : ℕ) (granted : Bool) → s.step ≡ Maintains → maintain_word_due p s.maintain ≡ Some place → keeper_next shape p s word granted ≡ record s { maintain = maintain_next shape p s.maintain word }
unfolding keeping_next
word_goes_on shape p s place word granted at due =
    let on : KeeperState = record s { maintain = maintain_next shape p s.maintain word } in
    ap (λ (step : Keeping). keeping_next shape p s step word granted) at ∙ led_no_further on (maintain_ask shape p on.maintain) (parts.kept_asks shape p s.maintain place word due)

-- a sweep that loads a word asks for it
load_asked : (ask : Ask SweepAnswer) (place : ℕ) → load_place ask ≡ Some place → ask ≡ Load place
load_asked (Load at) place due = ap (λ (x : ℕ). Load x) (same_Some _ _ due)
load_asked (Store at new) place due = absurd (none-some place due)
load_asked (Swap at new) place due = absurd (none-some place due)
load_asked (Cas at old new) place due = absurd (none-some place due)
load_asked (Add at number) place due = absurd (none-some place due)
load_asked (Max at number) place due = absurd (none-some place due)
load_asked (Put slot action) place due = absurd (none-some place due)
load_asked (Take slot) place due = absurd (none-some place due)
load_asked (Done its) place due = absurd (none-some place due)

-- a copy that loads a word asks for it
copy_asked_so : (copy : Option Copier) (place : ℕ) → copy_due copy ≡ Some place → copy_asked copy ≡ Load place
unfolding copy_step_ask step_word_due
copy_asked_so None place due = absurd (none-some place due)
copy_asked_so (Some m) place due = at_step m.copying.base m.copying.step due
  where
    at_step : (base : ℕ) (step : CopyStep) → step_word_due base step ≡ Some place → copy_step_ask base step ≡ Load place
    at_step base CopyEnded due = absurd (none-some place due)
    at_step base (LoadsSlot slot) due = ap (λ (x : ℕ). Load x) (same_Some _ _ due)
    at_step base LoadsLink due = ap (λ (x : ℕ). Load x) (same_Some _ _ due)

-- the ask of a word that is due
pub due_asks : (shape : Shape) (p : Places) (s : KeeperState) (place : ℕ) → keeper_word_due p s ≡ Some place → keeper_ask shape p s ≡ Load place
unfolding keeping_ask device_passed sweep_passed passed
due_asks shape p s place due = cases (due_parts p s s.step place due)
  where
    cases : DuePart p s s.step place → keeper_ask shape p s ≡ Load place
    cases (inl its) = ap (λ (step : Keeping). keeping_ask shape p s step) its.0 ∙ ap (λ (ask : Ask MaintainAnswer). device_passed ask (turn_over s)) (parts.due_asks shape p s.maintain place its.1)
    cases (inr (inl its)) = ap (λ (step : Keeping). keeping_ask shape p s step) its.0 ∙ ap (λ (ask : Ask (Unit {0})). passed ask (turn_over s)) (copy_asked_so s.copy place its.1)
    cases (inr (inr its)) = ap (λ (step : Keeping). keeping_ask shape p s step) its.0 ∙ ap (λ (ask : Ask SweepAnswer). sweep_passed ask (turn_over s)) (load_asked (sweep_ask s.sweep) place its.1)

-- a sweep's turn that is through ends that of the keeper
pub led_through : (s : KeeperState) (ask : Ask SweepAnswer) → sweep_ledto s ask ≡ (if is_through ask then turned s else s)
unfolding sweep_ledto
led_through s (Load place) = refl
led_through s (Store place new) = refl
led_through s (Swap place new) = refl
led_through s (Cas place old new) = refl
led_through s (Add place number) = refl
led_through s (Max place number) = refl
led_through s (Put slot action) = refl
led_through s (Take slot) = refl
led_through s (Done sweep.Device) = refl
led_through s (Done sweep.Through) = refl

-- no action of a drain slot goes with an ask
abbrev pub MovesNone : Ask KeeperTold → Type 0
MovesNone (Put slot action) = ⊥
MovesNone (Take slot) = ⊥
MovesNone ask = ⊤

passed_moves : (told : KeeperTold) (ask : Ask MaintainAnswer) → parts.IsLoadOrCall MaintainDevice ask → MovesNone (device_passed ask told)
unfolding device_passed passed
passed_moves told ask (inl (place, is)) = subst (λ (x : Ask MaintainAnswer). MovesNone (device_passed x told)) (sym is) tt
passed_moves told ask (inr is) = subst (λ (x : Ask MaintainAnswer). MovesNone (device_passed x told)) (sym is) tt

swept_moves : (told : KeeperTold) (ask : Ask SweepAnswer) → ((slot : ℕ) (action : Action) → ask ≡ Put slot action → ⊥) → ((slot : ℕ) → ask ≡ Take slot → ⊥) → MovesNone (sweep_passed ask told)
unfolding sweep_passed passed
swept_moves told (Load place) puts takes = tt
swept_moves told (Store place new) puts takes = tt
swept_moves told (Swap place new) puts takes = tt
swept_moves told (Cas place old new) puts takes = tt
swept_moves told (Add place number) puts takes = tt
swept_moves told (Max place number) puts takes = tt
swept_moves told (Put slot action) puts takes = puts slot action refl
swept_moves told (Take slot) puts takes = takes slot refl
swept_moves told (Done sweep.Device) puts takes = tt
swept_moves told (Done sweep.Through) puts takes = tt

-- a sweep's turn goes on, or is over
ledto_moves : (shape : Shape) (p : Places) (s : KeeperState) (ask : Ask SweepAnswer) → s.step ≡ Sweeps → sweep_ask s.sweep ≡ ask → MovesNone (keeper_ask shape p (sweep_ledto s ask))
unfolding keeping_ask sweep_ledto
ledto_moves shape p s ask at is = cases ask is
  where
    goes_on : MovesNone (keeper_ask shape p s)
    goes_on = subst (λ (step : Keeping). MovesNone (keeping_ask shape p s step)) (sym at) (swept_moves (turn_over s) (sweep_ask s.sweep) (sweep_puts_none s.sweep) (sweep_takes_none s.sweep))

    cases : (ask : Ask SweepAnswer) → sweep_ask s.sweep ≡ ask → MovesNone (keeper_ask shape p (sweep_ledto s ask))
    cases (Load place) is = goes_on
    cases (Store place new) is = goes_on
    cases (Swap place new) is = goes_on
    cases (Cas place old new) is = goes_on
    cases (Add place number) is = goes_on
    cases (Max place number) is = goes_on
    cases (Put slot action) is = goes_on
    cases (Take slot) is = goes_on
    cases (Done sweep.Device) is = goes_on
    cases (Done sweep.Through) is = tt

-- a copy moves none
copy_moves : (told : KeeperTold) (copy : Option Copier) → MovesNone (passed (copy_asked copy) told)
unfolding copy_step_ask passed
copy_moves told None = tt
copy_moves told (Some m) = at_step m.copying.base m.copying.step
  where
    at_step : (base : ℕ) (step : CopyStep) → MovesNone (passed (copy_step_ask base step) told)
    at_step base CopyEnded = tt
    at_step base (LoadsSlot slot) = tt
    at_step base LoadsLink = tt

-- nor does the turn in which it is made
copied_moves : (shape : Shape) (p : Places) (s : KeeperState) (ask : Ask (Unit {0})) → s.step ≡ Copies → MovesNone (keeper_ask shape p (copy_ledto s ask))
unfolding keeping_ask copy_ledto
copied_moves shape p s ask at = cases ask
  where
    goes_on : MovesNone (keeper_ask shape p s)
    goes_on = subst (λ (step : Keeping). MovesNone (keeping_ask shape p s step)) (sym at) (copy_moves (turn_over s) s.copy)

    cases : (ask : Ask (Unit {0})) → MovesNone (keeper_ask shape p (copy_ledto s ask))
    cases (Load place) = goes_on
    cases (Store place new) = goes_on
    cases (Swap place new) = goes_on
    cases (Cas place old new) = goes_on
    cases (Add place number) = goes_on
    cases (Max place number) = goes_on
    cases (Put slot action) = goes_on
    cases (Take slot) = goes_on
    cases (Done its) = tt

-- and what is asked behind it
pub kept_moves : (shape : Shape) (p : Places) (s : KeeperState) (place word : ℕ) (granted : Bool) → keeper_word_due p s ≡ Some place → MovesNone (keeper_ask shape p (keeper_next shape p s word granted))
unfolding keeping_ask keeping_next
kept_moves shape p s place word granted due = cases (due_parts p s s.step place due)
  where
    cases : DuePart p s s.step place → MovesNone (keeper_ask shape p (keeper_next shape p s word granted))
    cases (inl its) =
        let on : KeeperState = record s { maintain = maintain_next shape p s.maintain word } in
        let same : keeper_ask shape p (keeper_next shape p s word granted) ≡ device_passed (maintain_ask shape p on.maintain) (turn_over on) =
        ap (λ (k : KeeperState). keeper_ask shape p k) (word_goes_on shape p s place word granted its.0 its.1) ∙ ap (λ (step : Keeping). keeping_ask shape p on step) its.0 in
        subst MovesNone (sym same) (passed_moves (turn_over on) (maintain_ask shape p on.maintain) (parts.kept_asks shape p s.maintain place word its.1))
    cases (inr (inl its)) =
        let on : KeeperState = record s { copy = copy_driven s.copy word } in
        let same : keeper_next shape p s word granted ≡ copy_ledto on (copy_told on.copy) = ap (λ (step : Keeping). keeping_next shape p s step word granted) its.0 in
        subst (λ (k : KeeperState). MovesNone (keeper_ask shape p k)) (sym same) (copied_moves shape p on (copy_told on.copy) its.0)
    cases (inr (inr its)) =
        let on : KeeperState = record s { sweep = sweep_next s.sweep word } in
        let same : keeper_next shape p s word granted ≡ sweep_ledto on (sweep_ask on.sweep) = ap (λ (step : Keeping). keeping_next shape p s step word granted) its.0 in
        subst (λ (k : KeeperState). MovesNone (keeper_ask shape p k)) (sym same) (ledto_moves shape p on (sweep_ask on.sweep) its.0 refl)
