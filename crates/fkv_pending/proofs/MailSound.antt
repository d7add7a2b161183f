-- What stands at every moment of a mailbox's run, and that each event leaves it so.
use Rattle.std.proofs.Common.{◌≡◌, ◌≢◌, ◌⊎◌, inl, inr, ℕ, List, [], ◌∷◌, refl, sym, subst, arith, Bool, true, false}
use Rattle.std.specs.Prelude.{◌==◌, ◌&&◌, not, Option, Some, None, ⊤}
use Rattle.std.proofs.lemmas.Bool.Decides.{nat_tests}
use Rattle.fkv_pending.specs.declared.mailing.MailAnswer.{MailAnswer}
use Rattle.fkv_pending.specs.declared.mailing.MailAnswer.TheVariants.{Cleared, NotReady, Taken, Asked, Occupied}
use Rattle.fkv_pending.specs.declared.mailing.MailRecord.{MailRecord}
use Rattle.fkv_pending.specs.declared.mailing.MailTask.{MailTask}
use Rattle.fkv_pending.specs.declared.mailing.MailTask.TheVariants.{Clear, Take, Put}
use Rattle.fkv_pending.specs.declared.mailing.Mailing.{Mailing}
use Rattle.fkv_pending.specs.declared.mailing.Mailing.TheVariants.{Ended, LoadsState, LoadsHeader, LoadsKey, LoadsValue, StoresEmpty, StoresAddress, StoresAsked}
use Rattle.fkv_pending.specs.Mailing.{mail_empty, mail_asked, mail_ready, mail_ask, mail_next, state_found}
use Rattle.fkv_pending.specs.MailWorld.{Mailbox, Keeping, FindsState, FindsAddress, Reads, GivesHeader, GivesKey, GivesValue, GivesReady, has_emptied, keeper_next}
use Rattle.fkv_pending.specs.Mailbox.{MailNote, HasAskedFor, WasServed, HasTaken, HasLetGo, past_moved, served_notes, IsOver, IsAskedFor, IsServed, IsSomeServed, AreInTurn, record_in}
use Rattle.fkv_pending.proofs.Boxes.{truth, box_moved, box_served, reply_in}

-- what has come to pass, by the state of the mailbox
abbrev pub Stands : Mailbox → List MailNote → Type 0
Stands b notes =
    ((b.state ≡ mail_empty) × IsOver notes)
    ⊎ (((b.state ≡ mail_asked) × IsAskedFor (record { 0 = b.addr }) notes)
    ⊎ ((b.state ≡ mail_ready) × IsServed (record_in b) notes))

-- what is stored as the mailbox is emptied
abbrev pub Empties : Mailbox → Option MailTask → MailAnswer → Type 0
Empties b t Cleared = t ≡ Some Clear
Empties b t (Taken its) = (t ≡ Some Take) × (its ≡ record_in b)
Empties b t its = ⊥

-- what the session's machine tells of its task and of the mailbox
abbrev pub KnowsMail : Mailbox → Option MailTask → Mailing → Type 0
KnowsMail b t (Ended its) = (t ≡ None) × (has_emptied (Ended its) ≡ true → b.state ≡ mail_empty)
KnowsMail b t (LoadsState task) = t ≡ Some task
KnowsMail b t LoadsHeader = (t ≡ Some Take) × (b.state ≡ mail_ready)
KnowsMail b t (LoadsKey header) = (t ≡ Some Take) × (b.state ≡ mail_ready) × (b.header ≡ header)
KnowsMail b t (LoadsValue header key) = (t ≡ Some Take) × (b.state ≡ mail_ready) × (b.header ≡ header) × (b.key ≡ key)
KnowsMail b t (StoresEmpty its) = Empties b t its × (b.state ≡ mail_ready)
KnowsMail b t (StoresAddress addr) = (t ≡ Some (Put addr)) × (b.state ≡ mail_empty)
KnowsMail b t StoresAsked = (t ≡ Some (Put (record { 0 = b.addr }))) × (b.state ≡ mail_empty)

-- and the keeper
abbrev pub KnowsKeeper : Mailbox → Keeping → Type 0
KnowsKeeper b FindsState = ⊤
KnowsKeeper b FindsAddress = b.state ≡ mail_asked
KnowsKeeper b (Reads addr) = (b.state ≡ mail_asked) × (addr ≡ record { 0 = b.addr })
KnowsKeeper b (GivesHeader addr its) = (b.state ≡ mail_asked) × (addr ≡ record { 0 = b.addr })
KnowsKeeper b (GivesKey addr its) = (b.state ≡ mail_asked) × (addr ≡ record { 0 = b.addr }) × (b.header ≡ its.header)
KnowsKeeper b (GivesValue addr its) = (b.state ≡ mail_asked) × (addr ≡ record { 0 = b.addr }) × (b.header ≡ its.header) × (b.key ≡ its.key.0)
KnowsKeeper b (GivesReady addr its) = (b.state ≡ mail_asked) × (addr ≡ record { 0 = b.addr }) × (record_in b ≡ its)

pub record IsKept (b : Mailbox) (t : Option MailTask) (notes : List MailNote) (step : Mailing) (keeping : Keeping) : Type 0 where
  pub turns : AreInTurn notes
  pub stands : Stands b notes
  pub session : KnowsMail b t step
  pub keeper : KnowsKeeper b keeping

-- the keeper has nothing in hand where nothing is asked for
pub keeper_apart : (b c : Mailbox) (keeping : Keeping) → b.state ≢ mail_asked → KnowsKeeper b keeping → KnowsKeeper c keeping
keeper_apart b c FindsState none knows = tt
keeper_apart b c FindsAddress none knows = absurd (none knows)
keeper_apart b c (Reads addr) none knows = absurd (none knows.0)
keeper_apart b c (GivesHeader addr its) none knows = absurd (none knows.0)
keeper_apart b c (GivesKey addr its) none knows = absurd (none knows.0)
keeper_apart b c (GivesValue addr its) none knows = absurd (none knows.0)
keeper_apart b c (GivesReady addr its) none knows = absurd (none knows.0)

-- and the session knows nothing of a mailbox where a record is asked for
pub session_apart : (b c : Mailbox) (t : Option MailTask) (step : Mailing) → b.state ≡ mail_asked → KnowsMail b t step → KnowsMail c t step
session_apart b c t (Ended its) asked knows = (knows.0, λ emptied. let none = knows.1 emptied in absurd (omega (arith, asked, none)))
session_apart b c t (LoadsState task) asked knows = knows
session_apart b c t LoadsHeader asked knows = absurd (omega (arith, asked, knows.1))
session_apart b c t (LoadsKey header) asked knows = absurd (omega (arith, asked, knows.1))
session_apart b c t (LoadsValue header key) asked knows = absurd (omega (arith, asked, knows.1))
session_apart b c t (StoresEmpty its) asked knows = absurd (omega (arith, asked, knows.1))
session_apart b c t (StoresAddress addr) asked knows = absurd (omega (arith, asked, knows.1))
session_apart b c t StoresAsked asked knows = absurd (omega (arith, asked, knows.1))

empty_over : (b : Mailbox) (notes : List MailNote) → b.state ≡ mail_empty → Stands b notes → IsOver notes
empty_over b notes empty (inl stands) = stands.1
empty_over b notes empty (inr (inl stands)) = absurd (omega (arith, empty, stands.0))
empty_over b notes empty (inr (inr stands)) = absurd (omega (arith, empty, stands.0))

ready_served : (b : Mailbox) (notes : List MailNote) → b.state ≡ mail_ready → Stands b notes → IsServed (record_in b) notes
ready_served b notes ready (inl stands) = absurd (omega (arith, ready, stands.0))
ready_served b notes ready (inr (inl stands)) = absurd (omega (arith, ready, stands.0))
ready_served b notes ready (inr (inr stands)) = stands.1

asked_for : (b : Mailbox) (notes : List MailNote) → b.state ≡ mail_asked → Stands b notes → IsAskedFor (record { 0 = b.addr }) notes
asked_for b notes asked (inl stands) = absurd (omega (arith, asked, stands.0))
asked_for b notes asked (inr (inl stands)) = stands.1
asked_for b notes asked (inr (inr stands)) = absurd (omega (arith, asked, stands.0))

some_served : (given : MailRecord) (notes : List MailNote) → IsServed given notes → IsSomeServed notes
some_served given [] served = served
some_served given (HasAskedFor addr ∷ before) served = served
some_served given (WasServed addr its ∷ before) served = tt
some_served given (HasTaken its ∷ before) served = served
some_served given (HasLetGo ∷ before) served = served

-- a state that stays hasn't come to 1
stays_none : (n : ℕ) → (not (n == mail_asked) && n == mail_asked) ≡ false
stays_none n = tested (n == mail_asked)
  where
    tested : (c : Bool) → (not c && c) ≡ false
    tested true = refl
    tested false = refl

-- One step of the session.
abbrev pub Moved : ℕ → Mailbox → Option MailTask → List MailNote → Mailing → Mailing → Keeping → Type 0
Moved s b t notes step next keeping =
    let past = past_moved b (box_moved b step) (mail_ask s next) (record { task = t; notes = notes }) t in
    IsKept (box_moved b step) past.task past.notes next keeping

-- a step that loads a word
abbrev LoadedFrom : ℕ → Mailbox → MailTask → List MailNote → Mailing → Keeping → Type 0
LoadedFrom s b task notes next keeping =
    let past = past_moved b b (mail_ask s next) (record { task = Some task; notes = notes }) (Some task) in
    IsKept b past.task past.notes next keeping

state_kept : (s : ℕ) (b : Mailbox) (task : MailTask) (notes : List MailNote) (keeping : Keeping) → IsKept b (Some task) notes (LoadsState task) keeping → LoadedFrom s b task notes (state_found task b.state) keeping
unfolding mail_ask
state_kept s b Clear notes keeping was = rw (stays_none b.state) (elim (truth (b.state == mail_ready)) [
  | inl e ↦ rw e (record { turns = was.turns; stands = was.stands; session = (refl, grind (arith, nat_tests, e)); keeper = was.keeper })
  | inr e ↦ rw e (record { turns = was.turns; stands = was.stands; session = (refl, λ never. cc); keeper = was.keeper })
])
state_kept s b Take notes keeping was = rw (stays_none b.state) (elim (truth (b.state == mail_ready)) [
  | inl e ↦ rw e (record { turns = was.turns; stands = was.stands; session = (refl, grind (arith, nat_tests, e)); keeper = was.keeper })
  | inr e ↦ rw e (record { turns = was.turns; stands = was.stands; session = (refl, λ never. cc); keeper = was.keeper })
])
state_kept s b (Put addr) notes keeping was = rw (stays_none b.state) (elim (truth (b.state == mail_empty)) [
  | inl e ↦ rw e (record { turns = was.turns; stands = was.stands; session = (refl, grind (arith, nat_tests, e)); keeper = was.keeper })
  | inr e ↦ rw e (record { turns = was.turns; stands = was.stands; session = (refl, λ never. cc); keeper = was.keeper })
])

-- the mailbox is emptied
empties_kept : (s : ℕ) (b : Mailbox) (t : Option MailTask) (notes : List MailNote) (its : MailAnswer) (keeping : Keeping) → IsKept b t notes (StoresEmpty its) keeping → Moved s b t notes (StoresEmpty its) (Ended its) keeping
unfolding mail_ask
empties_kept s b t notes Cleared keeping was =
    let served = ready_served b notes was.session.1 was.stands in
    rw (was.session.0, was.session.1) (record {
      turns = (some_served (record_in b) notes served, was.turns);
      stands = inl (refl, tt);
      session = (refl, λ emptied. refl);
      keeper = keeper_apart b (record b { state = mail_empty }) keeping (λ asked. omega (arith, asked, was.session.1)) was.keeper;
    })
empties_kept s b t notes (Taken its) keeping was =
    let served : IsServed its notes = rw (was.session.0.1) (ready_served b notes was.session.1 was.stands) in
    rw (was.session.0.0, was.session.1) (record {
      turns = (served, was.turns);
      stands = inl (refl, tt);
      session = (refl, λ emptied. refl);
      keeper = keeper_apart b (record b { state = mail_empty }) keeping (λ asked. omega (arith, asked, was.session.1)) was.keeper;
    })
empties_kept s b t notes NotReady keeping was = absurd was.session.0
empties_kept s b t notes Asked keeping was = absurd was.session.0
empties_kept s b t notes Occupied keeping was = absurd was.session.0

pub session_kept : (s : ℕ) (b : Mailbox) (t : Option MailTask) (notes : List MailNote) (step : Mailing) (keeping : Keeping) → IsKept b t notes step keeping → Moved s b t notes step (mail_next step (reply_in b step)) keeping
unfolding mail_ask mail_next
session_kept s b t notes (Ended its) keeping was = rw was.session.0 (record { turns = was.turns; stands = was.stands; session = (refl, was.session.1); keeper = was.keeper })
session_kept s b t notes (LoadsState task) keeping was =
    subst (λ (u : Option MailTask). Moved s b u notes (LoadsState task) (state_found task b.state) keeping) (sym was.session)
    (state_kept s b task notes keeping (record { turns = was.turns; stands = was.stands; session = refl; keeper = was.keeper }))
session_kept s b t notes LoadsHeader keeping was = rw (was.session.0, stays_none b.state) (record { turns = was.turns; stands = was.stands; session = (refl, was.session.1, refl); keeper = was.keeper })
session_kept s b t notes (LoadsKey header) keeping was = rw (was.session.0, stays_none b.state) (record { turns = was.turns; stands = was.stands; session = (refl, was.session.1, was.session.2, refl); keeper = was.keeper })
session_kept s b t notes (LoadsValue header key) keeping was =
    rw (was.session.0, stays_none b.state) (record { turns = was.turns; stands = was.stands; session = ((refl, rw (was.session.2, was.session.3) refl), was.session.1); keeper = was.keeper })
session_kept s b t notes (StoresEmpty its) keeping was = empties_kept s b t notes its keeping was
session_kept s b t notes (StoresAddress addr) keeping was =
    rw (was.session.0, stays_none b.state) (record {
      turns = was.turns;
      stands = inl (was.session.1, empty_over b notes was.session.1 was.stands);
      session = (refl, was.session.1);
      keeper = keeper_apart b (record b { addr = addr.0 }) keeping (λ asked. omega (arith, asked, was.session.1)) was.keeper;
    })
session_kept s b t notes StoresAsked keeping was =
    rw (was.session.0, was.session.1) (record {
      turns = (empty_over b notes was.session.1 was.stands, was.turns);
      stands = inr (inl (refl, refl));
      session = (refl, λ never. cc);
      keeper = keeper_apart b (record b { state = mail_asked }) keeping (λ asked. omega (arith, asked, was.session.1)) was.keeper;
    })

-- One step of the keeper.
abbrev pub ServedOn : Mailbox → Option MailTask → List MailNote → Mailing → Keeping → Keeping → Type 0
ServedOn b t notes step keeping next = IsKept (box_served b keeping) t (served_notes keeping notes) step next

asked_stands : (b c : Mailbox) (notes : List MailNote) → b.state ≡ mail_asked → c.state ≡ b.state → c.addr ≡ b.addr → Stands b notes → Stands c notes
asked_stands b c notes asked state addr stands = inr (inl (rw state asked, rw addr (asked_for b notes asked stands)))

pub keeper_kept : (b : Mailbox) (t : Option MailTask) (notes : List MailNote) (step : Mailing) (given : MailRecord) (keeping : Keeping) → IsKept b t notes step keeping → ServedOn b t notes step keeping (keeper_next b given keeping)
keeper_kept b t notes step given FindsState was = elim (truth (b.state == mail_asked)) [
  | inl e ↦ rw e (record { turns = was.turns; stands = was.stands; session = was.session; keeper = grind (arith, nat_tests, e) })
  | inr e ↦ rw e was
]
keeper_kept b t notes step given FindsAddress was = record { turns = was.turns; stands = was.stands; session = was.session; keeper = (was.keeper, refl) }
keeper_kept b t notes step given (Reads addr) was = record { turns = was.turns; stands = was.stands; session = was.session; keeper = was.keeper }
keeper_kept b t notes step given (GivesHeader addr its) was =
    let c : Mailbox = record b { header = its.header } in
    record {
      turns = was.turns;
      stands = asked_stands b c notes was.keeper.0 refl refl was.stands;
      session = session_apart b c t step was.keeper.0 was.session;
      keeper = (was.keeper.0, was.keeper.1, refl);
    }
keeper_kept b t notes step given (GivesKey addr its) was =
    let c : Mailbox = record b { key = its.key.0 } in
    record {
      turns = was.turns;
      stands = asked_stands b c notes was.keeper.0 refl refl was.stands;
      session = session_apart b c t step was.keeper.0 was.session;
      keeper = (was.keeper.0, was.keeper.1, was.keeper.2, refl);
    }
keeper_kept b t notes step given (GivesValue addr its) was =
    let c : Mailbox = record b { value = its.value } in
    record {
      turns = was.turns;
      stands = asked_stands b c notes was.keeper.0 refl refl was.stands;
      session = session_apart b c t step was.keeper.0 was.session;
      keeper = (was.keeper.0, was.keeper.1, rw (was.keeper.2, was.keeper.3) refl);
    }
keeper_kept b t notes step given (GivesReady addr its) was =
    let c : Mailbox = record b { state = mail_ready } in
    record {
      turns = (rw (was.keeper.1) (asked_for b notes was.keeper.0 was.stands), was.turns);
      stands = inr (inr (refl, sym was.keeper.2));
      session = session_apart b c t step was.keeper.0 was.session;
      keeper = tt;
    }
