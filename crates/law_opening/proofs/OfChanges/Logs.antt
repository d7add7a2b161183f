-- How events of the log leave what is published, and what chains and records lead to.
use Rattle.std.proofs.Common.{◌≡◌, ℕ, ◌∙◌, inl, inr, refl, sym, ap, subst, List, [], ◌∷◌, ◌++◌}
use Rattle.std.specs.Prelude.{⊤, Option}
use Rattle.fkv_map.specs.declared.history.HistoryEntry.{HistoryEntry}
use Rattle.law_log.specs.Chains.{Cell, Logged, Reserved, Published, Dropped, head_of}
use Rattle.law_log.specs.Ghosts.{Log, Ghosts, GhostEvent, Tells, FindsEntry, TakesValue, Reserves, Publishes, Drops, Changes, Fixes, set_at, published, dropped, changed, changed_by, log_after, ghosts_after, ghost_run}
use Rattle.law_log.proofs.Shown.{at_one, run_on}
use Rattle.law_refine.specs.Events.Published.{IsPublished}
use Rattle.law_refine.specs.Events.Reservations.{AreStill, Reservation, TakesTail, MovesOn, Keeps, Behind, TakesOne, LosesOne, PublishesOne, DropsOne, is_still}
use Rattle.law_refine.specs.Heads.Heads.{AllMeetHeads, IsAtHead, meets_head}
use Rattle.law_opening.specs.Changes.Linked.{IsLed, IsLinkedLog}
use Rattle.law_opening.proofs.OfChanges.Rows.{Stays, led_grows}

-- ---- an address that is taken has no published record
abbrev pub takes_free : Log → GhostEvent → Type 0
takes_free log (Reserves a entry cell) = IsPublished (log.cells a) → ⊥
takes_free log event = ⊤

unfoldable pub AllTakeFree : (ℕ → ℕ) → Ghosts → List GhostEvent → Type 0
AllTakeFree home g [] = ⊤
AllTakeFree home g (event ∷ before) = takes_free (ghost_run home g before).log event × AllTakeFree home g before

pub free_on : (home : ℕ → ℕ) (g : Ghosts) (later before : List GhostEvent) → AllTakeFree home (ghost_run home g before) later → AllTakeFree home g before → AllTakeFree home g (later ++ before)
unfolding AllTakeFree
free_on home g [] before one other = other
free_on home g (event ∷ later) before one other = (subst (λ (x : Ghosts). takes_free x.log event) (sym (run_on home g later before)) one.0, free_on home g later before one.1 other)

one_free : (log : Log) (event : GhostEvent) → is_still event → takes_free log event
one_free log (Reserves a entry cell) still = absurd still
one_free log event still = tt

pub still_free : (home : ℕ → ℕ) (g : Ghosts) (events : List GhostEvent) → AreStill events → AllTakeFree home g events
unfolding AllTakeFree
still_free home g [] still = tt
still_free home g (event ∷ events) still = (one_free (ghost_run home g events).log event still.0, still_free home g events still.1)

behind_free : (home : ℕ → ℕ) (g : Ghosts) (event : GhostEvent) (events : List GhostEvent) → is_still event → AllTakeFree home g events → AllTakeFree home g (event ∷ events)
unfolding AllTakeFree
behind_free home g event events still free = (one_free (ghost_run home g events).log event still, free)

pub moves_free : (home : ℕ → ℕ) (g : Ghosts) (place : Option ℕ) (change : ℕ → ℕ) (reply : ℕ) (events : List GhostEvent) (before after : Option Reservation) → ((a : ℕ) → TakesTail place change reply a → IsPublished (g.log.cells a) → ⊥)
    → MovesOn place change reply events before after → AllTakeFree home g events
unfolding AllTakeFree ghost_run
moves_free home g place change reply events before after free (Keeps its held still) = still_free home g its still
moves_free home g place change reply events before after free (Behind event still its) = behind_free home g event _ still (moves_free home g place change reply _ before after free its)
moves_free home g place change reply events before after free (TakesOne its takes) = (free its.addr takes, tt)
moves_free home g place change reply events before after free (LosesOne its takes) = (tt, (free its.addr takes, tt))
moves_free home g place change reply events before after free (PublishesOne its) = (tt, tt)
moves_free home g place change reply events before after free (DropsOne its) = (tt, tt)

-- ---- what is published stays so
set_stays : (cells : ℕ → Logged) (b a : ℕ) (x : Logged) → (a ≡ b → IsPublished x) → IsPublished (cells a) → IsPublished (set_at cells b x a)
set_stays cells b a x new there = elim (at_one cells b x a) [
  | inl here ↦ subst IsPublished (sym here.1) (new here.0)
  | inr else ↦ subst IsPublished (sym else.1) there
]

not_reserved : {X : Type 0} (logged : Logged) (entry : HistoryEntry) (cell : Cell) → logged ≡ Reserved entry cell → IsPublished logged → X
not_reserved logged entry cell e there = absurd (subst IsPublished e there)

publish_stays : (home : ℕ → ℕ) (log : Log) (b : ℕ) (logged : Logged) → Stays log (published home log b logged)
publish_stays home log b (Reserved entry cell) = λ a there. set_stays log.cells b a (Published cell) (λ same. tt) there
publish_stays home log b logged = λ a there. there

drop_stays : (log : Log) (b : ℕ) (logged : Logged) → log.cells b ≡ logged → Stays log (dropped log b logged)
drop_stays log b (Reserved entry cell) e = λ a there. set_stays log.cells b a (Dropped cell) (λ same. not_reserved (log.cells a) entry cell (ap log.cells same ∙ e) there) there
drop_stays log b logged e = λ a there. there

change_stays : (log : Log) (b : ℕ) (entry : HistoryEntry) (logged : Logged) → Stays log (changed log b entry logged)
change_stays log b entry (Published cell) = λ a there. set_stays log.cells b a (Published (changed_by entry cell)) (λ same. tt) there
change_stays log b entry logged = λ a there. there

one_stays : (home : ℕ → ℕ) (log : Log) (event : GhostEvent) → takes_free log event → Stays log (log_after home log event)
one_stays home log (Reserves b entry cell) free = λ a there. set_stays log.cells b a (Reserved entry cell) (λ same. absurd (free (subst (λ (i : ℕ). IsPublished (log.cells i)) same there))) there
one_stays home log (Publishes b) free = publish_stays home log b (log.cells b)
one_stays home log (Drops b) free = drop_stays log b (log.cells b) refl
one_stays home log (Changes b entry) free = change_stays log b entry (log.cells b)
one_stays home log event free = λ a there. there

pub stays_behind : (home : ℕ → ℕ) (g : Ghosts) (later before : List GhostEvent) → AllTakeFree home g (later ++ before) → Stays (ghost_run home g before).log (ghost_run home g (later ++ before)).log
unfolding ghost_run ghosts_after AllTakeFree
stays_behind home g [] before free = λ a there. there
stays_behind home g (event ∷ later) before free = λ a there. one_stays home (ghost_run home g (later ++ before)).log event free.0 a (stays_behind home g later before free.1 a there)

-- ---- and so does what they lead to
-- a log whose chains are the same, and whose published records lead where one was published before
same_linked : (log log' : Log) → Stays log log' → log'.chains ≡ log.chains → ((a : ℕ) (cell : Cell) → log'.cells a ≡ Published cell → IsLed log cell.previous) → IsLinkedLog log → IsLinkedLog log'
same_linked log log' stays chains leads linked = record {
  begins = λ home. subst (λ (c : ℕ → List ℕ). IsLed log' (head_of (c home))) (sym chains) (led_grows log log' stays (head_of (log.chains home)) (linked.begins home));
  leads = λ a cell e. led_grows log log' stays cell.previous (leads a cell e);
}

set_leads : (log : Log) (b : ℕ) (x : Logged) → IsLinkedLog log → ((cell : Cell) → x ≡ Published cell → IsLed log cell.previous) → (a : ℕ) (cell : Cell) → set_at log.cells b x a ≡ Published cell → IsLed log cell.previous
set_leads log b x linked new a cell e = elim (at_one log.cells b x a) [
  | inl here ↦ new cell (sym here.1 ∙ e)
  | inr else ↦ linked.leads a cell (sym else.1 ∙ e)
]

same_previous : (log : Log) (one other : Cell) → Published one ≡ Published other → IsLed log one.previous → IsLed log other.previous
same_previous log one other e led = let same : one ≡ other = cc in subst (λ (c : Cell). IsLed log c.previous) same led

drop_linked : (log : Log) (b : ℕ) (logged : Logged) → log.cells b ≡ logged → IsLinkedLog log → IsLinkedLog (dropped log b logged)
drop_linked log b (Reserved entry cell) e linked = same_linked log (dropped log b (Reserved entry cell)) (drop_stays log b (Reserved entry cell) e) refl (set_leads log b (Dropped cell) linked (λ other same. let off : Dropped cell ≡ Published other = same in cc)) linked
drop_linked log b logged e linked = linked

change_linked : (log : Log) (b : ℕ) (entry : HistoryEntry) (logged : Logged) → log.cells b ≡ logged → IsLinkedLog log → IsLinkedLog (changed log b entry logged)
change_linked log b entry (Published cell) e linked = same_linked log (changed log b entry (Published cell)) (change_stays log b entry (Published cell)) refl
    (set_leads log b (Published (changed_by entry cell)) linked (λ other same. same_previous log (changed_by entry cell) other same (linked.leads b cell e))) linked
change_linked log b entry logged e linked = linked

publish_linked : (home : ℕ → ℕ) (log : Log) (b : ℕ) (logged : Logged) → IsAtHead home log logged → IsLinkedLog log → IsLinkedLog (published home log b logged)
publish_linked home log b (Reserved entry cell) at linked = record {
  begins = begins;
  leads = λ a other e. led_grows log after stays other.previous
      (set_leads log b (Published cell) linked (λ it same. same_previous log cell it same (subst (IsLed log) at (linked.begins (home cell.key)))) a other e);
}
  where
    after : Log
    after = published home log b (Reserved entry cell)

    stays : Stays log after
    stays = publish_stays home log b (Reserved entry cell)

    there : IsPublished (set_at log.cells b (Published cell) b)
    there = elim (at_one log.cells b (Published cell) b) [
      | inl here ↦ subst IsPublished (sym here.1) tt
      | inr else ↦ absurd (else.0 refl)
    ]

    begins : (h : ℕ) → IsLed after (head_of (set_at log.chains (home cell.key) (b ∷ log.chains (home cell.key)) h))
    begins h = elim (at_one log.chains (home cell.key) (b ∷ log.chains (home cell.key)) h) [
      | inl here ↦ subst (λ (chain : List ℕ). IsLed after (head_of chain)) (sym here.1) (inr there)
      | inr else ↦ subst (λ (chain : List ℕ). IsLed after (head_of chain)) (sym else.1) (led_grows log after stays (head_of (log.chains h)) (linked.begins h))
    ]
publish_linked home log b logged at linked = linked

one_linked : (home : ℕ → ℕ) (log : Log) (event : GhostEvent) → takes_free log event → meets_head home log event → IsLinkedLog log → IsLinkedLog (log_after home log event)
one_linked home log (Reserves b entry cell) free meets linked =
    same_linked log (log_after home log (Reserves b entry cell)) (one_stays home log (Reserves b entry cell) free) refl (set_leads log b (Reserved entry cell) linked (λ other same. let off : Reserved entry cell ≡ Published other = same in cc)) linked
one_linked home log (Publishes b) free meets linked = publish_linked home log b (log.cells b) meets linked
one_linked home log (Drops b) free meets linked = drop_linked log b (log.cells b) refl linked
one_linked home log (Changes b entry) free meets linked = change_linked log b entry (log.cells b) refl linked
one_linked home log (Tells line) free meets linked = linked
one_linked home log (FindsEntry reader) free meets linked = linked
one_linked home log (TakesValue reader) free meets linked = linked
one_linked home log (Fixes b) free meets linked = record { begins = linked.begins; leads = linked.leads }

pub run_linked : (home : ℕ → ℕ) (g : Ghosts) (events : List GhostEvent) → AllTakeFree home g events → AllMeetHeads home g events → IsLinkedLog g.log → IsLinkedLog (ghost_run home g events).log
unfolding ghost_run ghosts_after AllTakeFree AllMeetHeads
run_linked home g [] free meets linked = linked
run_linked home g (event ∷ before) free meets linked = one_linked home (ghost_run home g before).log event free.0 meets.0 (run_linked home g before free.1 meets.1 linked)
