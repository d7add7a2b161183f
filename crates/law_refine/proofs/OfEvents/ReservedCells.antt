-- A log's cells beside what sessions have reserved: just these are reserved, and a step that moves one reservation leaves it so.
use Rattle.std.proofs.Common.{◌≡◌, ◌≢◌, ℕ, ◌∙◌, inl, inr, refl, sym, ap, subst, List, [], ◌∷◌, ◌++◌}
use Rattle.std.specs.Prelude.{Option, Some, None}
use Rattle.fkv_map.specs.declared.history.HistoryEntry.{HistoryEntry}
use Rattle.fkv_epoch.proofs.Shown.{none_some, same_or, some_same}
use Rattle.law_log.specs.Chains.{Cell, Logged, Unborn, Reserved, Published, Dropped}
use Rattle.law_log.specs.Ghosts.{Log, Ghosts, GhostEvent, Reserves, Publishes, Drops, Changes, set_at, published, dropped, changed, changed_by, log_after, ghosts_after, ghost_run}
use Rattle.law_log.proofs.Shown.{run_on, set_there, set_else, at_one}
use Rattle.law_refine.specs.Events.Reservations.{is_still, AreStill, Reservation, TakesTail, MovesOn, Keeps, Behind, TakesOne, LosesOne, PublishesOne, DropsOne}
use Rattle.law_refine.specs.Events.Reserved.{IsReserved, meets_reserved, AllMeetReserved}

-- by session, what it has reserved
abbrev pub Reservings : Type 0
Reservings = ℕ → Option Reservation

pub record IsHeld (r : Reservings) (a : ℕ) (entry : HistoryEntry) (cell : Cell) : Type 0 where
  pub number : ℕ
  pub its : Reservation
  pub has : r number ≡ Some its
  pub its_addr : its.addr ≡ a
  pub its_entry : its.entry ≡ entry
  pub its_cell : its.cell ≡ cell

-- just what is reserved by sessions is reserved in the log
pub record Matches (r : Reservings) (cells : ℕ → Logged) : Type 0 where
  pub holds : (number : ℕ) (its : Reservation) → r number ≡ Some its → cells its.addr ≡ Reserved its.entry its.cell
  pub held : (a : ℕ) (entry : HistoryEntry) (cell : Cell) → cells a ≡ Reserved entry cell → IsHeld r a entry cell

abbrev pub AreApart : Reservings → Type 0
AreApart r = (number other : ℕ) (its another : Reservation) → r number ≡ Some its → r other ≡ Some another → its.addr ≡ another.addr → number ≡ other

abbrev pub OthersStay : Reservings → Reservings → ℕ → Type 0
OthersStay r after number = (other : ℕ) → other ≢ number → after other ≡ r other

-- ---- the same cells are reserved
pub record SameReserved (cells after : ℕ → Logged) : Type 0 where
  pub stays : (a : ℕ) (entry : HistoryEntry) (cell : Cell) → cells a ≡ Reserved entry cell → after a ≡ Reserved entry cell
  pub was : (a : ℕ) (entry : HistoryEntry) (cell : Cell) → after a ≡ Reserved entry cell → cells a ≡ Reserved entry cell

abbrev IsFree : Logged → Type 0
IsFree its = (entry : HistoryEntry) (cell : Cell) → its ≡ Reserved entry cell → ⊥

unborn_free : IsFree Unborn
unborn_free entry cell e = cc

published_free : (its : Cell) → IsFree (Published its)
published_free its entry cell e = cc

dropped_free : (its : Cell) → IsFree (Dropped its)
dropped_free its entry cell e = cc

set_same : (cells : ℕ → Logged) (b : ℕ) (x : Logged) → IsFree (cells b) → IsFree x → SameReserved cells (set_at cells b x)
set_same cells b x before free = record {
  stays = λ a entry cell is. elim (at_one cells b x a) [
    | inl here ↦ absurd (before entry cell (sym (ap cells here.0) ∙ is))
    | inr there ↦ there.1 ∙ is
  ];
  was = λ a entry cell is. elim (at_one cells b x a) [
    | inl here ↦ absurd (free entry cell (sym here.1 ∙ is))
    | inr there ↦ sym there.1 ∙ is
  ];
}

lost_same : (cells : ℕ → Logged) (b : ℕ) (between x : Logged) → IsFree (cells b) → IsFree x → SameReserved cells (set_at (set_at cells b between) b x)
lost_same cells b between x before free = record {
  stays = λ a entry cell is. elim (at_one (set_at cells b between) b x a) [
    | inl here ↦ absurd (before entry cell (sym (ap cells here.0) ∙ is))
    | inr there ↦ there.1 ∙ (set_else cells b between a there.0 ∙ is)
  ];
  was = λ a entry cell is. elim (at_one (set_at cells b between) b x a) [
    | inl here ↦ absurd (free entry cell (sym here.1 ∙ is))
    | inr there ↦ sym (set_else cells b between a there.0) ∙ (sym there.1 ∙ is)
  ];
}

all_same : (cells : ℕ → Logged) → SameReserved cells cells
all_same cells = record { stays = λ a entry cell is. is; was = λ a entry cell is. is }

changed_same : (log : Log) (b : ℕ) (entry : HistoryEntry) (logged : Logged) → log.cells b ≡ logged → SameReserved log.cells (changed log b entry logged).cells
changed_same log b entry (Published cell) its = set_same log.cells b (Published (changed_by entry cell)) (subst IsFree (sym its) (published_free cell)) (published_free (changed_by entry cell))
changed_same log b entry logged its = all_same log.cells

still_same : (home : ℕ → ℕ) (log : Log) (event : GhostEvent) → is_still event → SameReserved log.cells (log_after home log event).cells
still_same home log (Changes a entry) still = changed_same log a entry (log.cells a) refl
still_same home log (Reserves a entry cell) still = absurd still
still_same home log (Publishes a) still = absurd still
still_same home log (Drops a) still = absurd still
still_same home log event still = all_same log.cells

pub same_matches : (r after : Reservings) (cells others : ℕ → Logged) → ((number : ℕ) → after number ≡ r number) → SameReserved cells others → Matches r cells → Matches after others
same_matches r after cells others agree same its = record {
  holds = λ number it e. same.stays it.addr it.entry it.cell (its.holds number it (sym (agree number) ∙ e));
  held = λ a entry cell e.
      let h = its.held a entry cell (same.was a entry cell e) in
      record { number = h.number; its = h.its; has = agree h.number ∙ h.has; its_addr = h.its_addr; its_entry = h.its_entry; its_cell = h.its_cell };
}

-- ---- one more is reserved
others_held : (r after : Reservings) (number a : ℕ) (entry : HistoryEntry) (cell : Cell) → OthersStay r after number → (h : IsHeld r a entry cell) → h.number ≢ number → IsHeld after a entry cell
others_held r after number a entry cell others h other = record { number = h.number; its = h.its; has = others h.number other ∙ h.has; its_addr = h.its_addr; its_entry = h.its_entry; its_cell = h.its_cell }

reserved_entry : (one other : HistoryEntry) (cell another : Cell) → Reserved one cell ≡ Reserved other another → one ≡ other
reserved_entry one other cell another e = cc

reserved_cell : (one other : HistoryEntry) (cell another : Cell) → Reserved one cell ≡ Reserved other another → cell ≡ another
reserved_cell one other cell another e = cc

taken_matches : (r after : Reservings) (cells : ℕ → Logged) (number : ℕ) (its : Reservation) → r number ≡ None → after number ≡ Some its → OthersStay r after number → cells its.addr ≡ Unborn
    → Matches r cells → Matches after (set_at cells its.addr (Reserved its.entry its.cell))
taken_matches r after cells number its none now others unborn m = record { holds = holds; held = held }
  where
    new : Logged
    new = Reserved its.entry its.cell

    holds : (n : ℕ) (it : Reservation) → after n ≡ Some it → set_at cells its.addr new it.addr ≡ Reserved it.entry it.cell
    holds n it e = elim (same_or n number) [
      | inl same ↦ subst (λ (x : Reservation). set_at cells its.addr new x.addr ≡ Reserved x.entry x.cell) (some_same _ _ (sym now ∙ (sym (ap after same) ∙ e))) (set_there cells its.addr new)
      | inr other ↦ elim (at_one cells its.addr new it.addr) [
        | inl here ↦ absurd (unborn_free it.entry it.cell (sym unborn ∙ (sym (ap cells here.0) ∙ m.holds n it (sym (others n other) ∙ e))))
        | inr there ↦ there.1 ∙ m.holds n it (sym (others n other) ∙ e)
      ]
    ]

    not_its : (a : ℕ) (entry : HistoryEntry) (cell : Cell) → (h : IsHeld r a entry cell) → h.number ≢ number
    not_its a entry cell h = λ same. none_some h.its (sym none ∙ (sym (ap r same) ∙ h.has))

    held : (a : ℕ) (entry : HistoryEntry) (cell : Cell) → set_at cells its.addr new a ≡ Reserved entry cell → IsHeld after a entry cell
    held a entry cell e = elim (at_one cells its.addr new a) [
      | inl here ↦ record { number = number; its = its; has = now; its_addr = sym here.0; its_entry = reserved_entry its.entry entry its.cell cell (sym here.1 ∙ e); its_cell = reserved_cell its.entry entry its.cell cell (sym here.1 ∙ e) }
      | inr there ↦ let h = m.held a entry cell (sym there.1 ∙ e) in others_held r after number a entry cell others h (not_its a entry cell h)
    ]

-- ---- one is published or given up
freed_matches : (r after : Reservings) (cells : ℕ → Logged) (number : ℕ) (its : Reservation) (x : Logged) → r number ≡ Some its → after number ≡ None → OthersStay r after number → AreApart r → IsFree x
    → Matches r cells → Matches after (set_at cells its.addr x)
freed_matches r after cells number its x has gone others apart free m = record { holds = holds; held = held }
  where
    holds : (n : ℕ) (it : Reservation) → after n ≡ Some it → set_at cells its.addr x it.addr ≡ Reserved it.entry it.cell
    holds n it e = elim (same_or n number) [
      | inl same ↦ none_some it (sym gone ∙ (sym (ap after same) ∙ e))
      | inr other ↦ elim (at_one cells its.addr x it.addr) [
        | inl here ↦ absurd (other (apart n number it its (sym (others n other) ∙ e) has here.0))
        | inr there ↦ there.1 ∙ m.holds n it (sym (others n other) ∙ e)
      ]
    ]

    not_its : (a : ℕ) (entry : HistoryEntry) (cell : Cell) → a ≢ its.addr → (h : IsHeld r a entry cell) → h.number ≢ number
    not_its a entry cell else h = λ same. else (sym h.its_addr ∙ ap (λ (it : Reservation). it.addr) (some_same _ _ (sym h.has ∙ (ap r same ∙ has))))

    held : (a : ℕ) (entry : HistoryEntry) (cell : Cell) → set_at cells its.addr x a ≡ Reserved entry cell → IsHeld after a entry cell
    held a entry cell e = elim (at_one cells its.addr x a) [
      | inl here ↦ absurd (free entry cell (sym here.1 ∙ e))
      | inr there ↦ let h = m.held a entry cell (sym there.1 ∙ e) in others_held r after number a entry cell others h (not_its a entry cell there.0 h)
    ]

-- ---- a step's events behind a log
pub record Stepped (home : ℕ → ℕ) (g : Ghosts) (events : List GhostEvent) (after : Reservings) : Type 0 where
  pub matches : Matches after (ghost_run home g events).log.cells
  pub meets : AllMeetReserved home g events

still_meets : (log : Log) (event : GhostEvent) → is_still event → meets_reserved log event
still_meets log (Reserves a entry cell) still = tt
still_meets log (Publishes a) still = absurd still
still_meets log (Drops a) still = absurd still
still_meets log event still = tt

one_behind : (home : ℕ → ℕ) (g : Ghosts) (event : GhostEvent) (events : List GhostEvent) (after : Reservings) → is_still event → Stepped home g events after → Stepped home g (event ∷ events) after
unfolding ghost_run ghosts_after AllMeetReserved
one_behind home g event events after still s = record {
  matches = same_matches after after _ _ (λ number. refl) (still_same home (ghost_run home g events).log event still) s.matches;
  meets = (still_meets (ghost_run home g events).log event still, s.meets);
}

pub still_behind : (home : ℕ → ℕ) (g : Ghosts) (later events : List GhostEvent) (after : Reservings) → AreStill later → Stepped home g events after → Stepped home g (later ++ events) after
still_behind home g [] events after still s = s
still_behind home g (event ∷ later) events after still s = one_behind home g event (later ++ events) after still.0 (still_behind home g later events after still.1 s)

pub nothing_stepped : (home : ℕ → ℕ) (g : Ghosts) (r after : Reservings) → ((number : ℕ) → after number ≡ r number) → Matches r g.log.cells → Stepped home g [] after
unfolding ghost_run AllMeetReserved
nothing_stepped home g r after agree m = record { matches = same_matches r after _ _ agree (all_same g.log.cells) m; meets = tt }

kept_stepped : (home : ℕ → ℕ) (g : Ghosts) (r after : Reservings) (events : List GhostEvent) → ((number : ℕ) → after number ≡ r number) → AreStill events → Matches r g.log.cells → Stepped home g events after
kept_stepped home g r after [] agree still m = nothing_stepped home g r after agree m
kept_stepped home g r after (event ∷ events) agree still m = one_behind home g event events after still.0 (kept_stepped home g r after events agree still.1 m)

all_agree : (r after : Reservings) (number : ℕ) (its : Option Reservation) → r number ≡ its → after number ≡ its → OthersStay r after number → (n : ℕ) → after n ≡ r n
all_agree r after number its was is others n = elim (same_or n number) [
  | inl same ↦ ap after same ∙ (is ∙ (sym was ∙ sym (ap r same)))
  | inr other ↦ others n other
]

pub moves_stepped : (home : ℕ → ℕ) (g : Ghosts) (r after : Reservings) (number : ℕ) (place : Option ℕ) (change : ℕ → ℕ) (reply : ℕ) (events : List GhostEvent) (one other : Option Reservation)
    → r number ≡ one → after number ≡ other → OthersStay r after number → AreApart r → ((addr : ℕ) → TakesTail place change reply addr → g.log.cells addr ≡ Unborn) → Matches r g.log.cells
    → MovesOn place change reply events one other → Stepped home g events after
unfolding ghost_run ghosts_after AllMeetReserved
moves_stepped home g r after number place change reply events one other was is others apart fresh m (Keeps its held still) = kept_stepped home g r after its (all_agree r after number held was is others) still m
moves_stepped home g r after number place change reply events one other was is others apart fresh m (Behind event still its) =
    one_behind home g event _ after still (moves_stepped home g r after number place change reply _ one other was is others apart fresh m its)
moves_stepped home g r after number place change reply events one other was is others apart fresh m (TakesOne its takes) = record {
  matches = taken_matches r after g.log.cells number its was is others (fresh its.addr takes) m;
  meets = (tt, tt);
}
moves_stepped home g r after number place change reply events one other was is others apart fresh m (LosesOne its takes) =
    let log : Log = log_after home g.log (Reserves its.addr its.entry its.cell) in
    let there : log.cells its.addr ≡ Reserved its.entry its.cell = set_there g.log.cells its.addr (Reserved its.entry its.cell) in
    let same = lost_same g.log.cells its.addr (Reserved its.entry its.cell) (Dropped its.cell) (subst IsFree (sym (fresh its.addr takes)) unborn_free) (dropped_free its.cell) in
    record {
      matches = subst (λ (x : Logged). Matches after (dropped log its.addr x).cells) (sym there) (same_matches r after _ _ (all_agree r after number None was is others) same m);
      meets = (subst IsReserved (sym there) tt, (tt, tt));
    }
moves_stepped home g r after number place change reply events one other was is others apart fresh m (PublishesOne its) =
    let there : g.log.cells its.addr ≡ Reserved its.entry its.cell = m.holds number its was in
    record {
      matches = subst (λ (x : Logged). Matches after (published home g.log its.addr x).cells) (sym there) (freed_matches r after g.log.cells number its (Published its.cell) was is others apart (published_free its.cell) m);
      meets = (subst IsReserved (sym there) tt, tt);
    }
moves_stepped home g r after number place change reply events one other was is others apart fresh m (DropsOne its) =
    let there : g.log.cells its.addr ≡ Reserved its.entry its.cell = m.holds number its was in
    record {
      matches = subst (λ (x : Logged). Matches after (dropped g.log its.addr x).cells) (sym there) (freed_matches r after g.log.cells number its (Dropped its.cell) was is others apart (dropped_free its.cell) m);
      meets = (subst IsReserved (sym there) tt, tt);
    }

-- ---- and all of them behind others
pub meets_on : (home : ℕ → ℕ) (g : Ghosts) (later before : List GhostEvent) → AllMeetReserved home (ghost_run home g before) later → AllMeetReserved home g before → AllMeetReserved home g (later ++ before)
unfolding AllMeetReserved
meets_on home g [] before one other = other
meets_on home g (event ∷ later) before one other = (subst (λ (x : Ghosts). meets_reserved x.log event) (sym (run_on home g later before)) one.0, meets_on home g later before one.1 other)
