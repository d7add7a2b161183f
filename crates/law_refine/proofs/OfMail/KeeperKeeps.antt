-- How far the mailbox's keeper has come, over a step of the engine's that serves a mailbox.
use Rattle.std.proofs.Common.{◌≡◌, ℕ, ◌+◌, ◌^◌, ◌∙◌, refl, sym, ap, subst, arith, List, [], ◌∷◌, Bool, true, false}
use Rattle.std.specs.Prelude.{⊤, if◌then◌else◌, ◌==◌, nat_lt, slice_set}
use Rattle.std.proofs.lemmas.Bool.Decides.{nat_tests}
use Rattle.fkv_base.specs.declared.numbers.Addr.{Addr}
use Rattle.fkv_plane.specs.declared.places.SessionWord.TheVariants as own
use Rattle.fkv_plane.specs.Asked.{word_at, words_after}
use Rattle.fkv_plane.specs.Places.{session_place}
use Rattle.law_world.specs.Below.fkv_flush.TheServing.{Serving}
use Rattle.law_world.specs.Below.fkv_flush.TheServing.TheVariants as serve
use Rattle.law_world.specs.Below.fkv_flush.Serving.{asked_state, gone_mail, mail_of, serve_ask, serve_next, serve_read, mailbox_from}
use Rattle.law_world.specs.Below.fkv_pending.MailRecord.{MailRecord}
use Rattle.law_world.specs.Below.fkv_pending.Mailing.{mail_asked}
use Rattle.law_world.specs.Below.fkv_pending.MailWorld.{Mailbox, mailbox_of, Keeping, FindsState, Reads, GivesHeader, GivesKey, GivesValue, GivesReady, MailWorld, MailEvent, Serves, mail_happens, mail_run}
use Rattle.law_refine.specs.Mail.MailEvents.{served_events, record_gone, record_read}
use Rattle.law_refine.specs.Mail.Servers.{is_serving, record_of, ServesIt, ServesIf, KeepsUp}
use Rattle.law_refine.proofs.OfMail.KeeperServes.{IsIdle, first_idle, serve_after}
use Rattle.law_refine.proofs.OfMail.MailSteps.{loaded, takes_up}

-- where the address is loaded next, a record is asked for
abbrev pub FindsAsked : ℕ → Serving → Mailbox → Type 0
FindsAsked session (serve.LoadsAddress its) box = its ≡ session → box.state ≡ mail_asked
FindsAsked session step box = ⊤

pub finds_on : (session : ℕ) (step : Serving) (b c : Mailbox) → (b.state ≡ mail_asked → c.state ≡ mail_asked) → FindsAsked session step b → FindsAsked session step c
finds_on session (serve.LoadsAddress its) b c stays finds = λ same. stays (finds same)
finds_on session serve.AtRest b c stays finds = tt
finds_on session (serve.LoadsState its) b c stays finds = tt
finds_on session (serve.Reads its addr) b c stays finds = tt
finds_on session (serve.StoresHeader its mail) b c stays finds = tt
finds_on session (serve.StoresKey its mail) b c stays finds = tt
finds_on session (serve.StoresValue its mail) b c stays finds = tt
finds_on session (serve.StoresReady its) b c stays finds = tt

-- a keeper that has found nothing asked for
state_if : (c : Bool) (its : ℕ) → ServesIf c (serve.LoadsState its) FindsState
state_if true its = refl
state_if false its = refl

address_if : (c : Bool) (its : ℕ) → ServesIf c (serve.LoadsAddress its) FindsState
address_if true its = refl
address_if false its = refl

pub idle_keeps : (session : ℕ) (step : Serving) → IsIdle step → KeepsUp session step FindsState
idle_keeps session serve.AtRest idle = refl
idle_keeps session (serve.LoadsState its) idle = state_if (its == session) its
idle_keeps session (serve.LoadsAddress its) idle = absurd idle
idle_keeps session (serve.Reads its addr) idle = absurd idle
idle_keeps session (serve.StoresHeader its mail) idle = absurd idle
idle_keeps session (serve.StoresKey its mail) idle = absurd idle
idle_keeps session (serve.StoresValue its mail) idle = absurd idle
idle_keeps session (serve.StoresReady its) idle = absurd idle

pub idle_finds : (session : ℕ) (step : Serving) (box : Mailbox) → IsIdle step → FindsAsked session step box
idle_finds session (serve.LoadsAddress its) box idle = absurd idle
idle_finds session serve.AtRest box idle = tt
idle_finds session (serve.LoadsState its) box idle = tt
idle_finds session (serve.Reads its addr) box idle = tt
idle_finds session (serve.StoresHeader its mail) box idle = tt
idle_finds session (serve.StoresKey its mail) box idle = tt
idle_finds session (serve.StoresValue its mail) box idle = tt
idle_finds session (serve.StoresReady its) box idle = tt

either_keeps : (c : Bool) (session : ℕ) (a b : Serving) (keeping : Keeping) → KeepsUp session a keeping → KeepsUp session b keeping → KeepsUp session (if c then a else b) keeping
either_keeps true session a b keeping one other = one
either_keeps false session a b keeping one other = other

either_finds : (c : Bool) (session : ℕ) (a b : Serving) (box : Mailbox) → FindsAsked session a box → FindsAsked session b box → FindsAsked session (if c then a else b) box
either_finds true session a b box one other = one
either_finds false session a b box one other = other

not_both : {A : Type 0} (session its : ℕ) → (its == session) ≡ false → its ≡ session → A
not_both session its none same = let clash : (its == session) ≡ true = grind (arith, nat_tests, same) in let both : true ≡ false = sym clash ∙ none in cc

-- one that serves another mailbox has nothing of this one in hand
none_if : (c : Bool) (step : Serving) → c ≡ false → ServesIf c step FindsState
none_if c step none = subst (λ (x : Bool). ServesIf x step FindsState) (sym none) refl

module _ (session sessions begin : ℕ) (words read : List ℕ) where
  first_keeps : (its : ℕ) → KeepsUp session (mailbox_from sessions its) FindsState
  first_keeps its = idle_keeps session (mailbox_from sessions its) (first_idle sessions its)

  first_finds : (its : ℕ) (box : Mailbox) → FindsAsked session (mailbox_from sessions its) box
  first_finds its box = idle_finds session (mailbox_from sessions its) box (first_idle sessions its)

  pub other_keeps : (step : Serving) → is_serving session step ≡ false → KeepsUp session (serve_after sessions begin words read step) FindsState
  unfolding serve_next serve_read serve_ask
  other_keeps serve.AtRest none = refl
  other_keeps (serve.LoadsState its) none =
      either_keeps (word_at words (session_place its own.MailState) == asked_state) session (serve.LoadsAddress its) (mailbox_from sessions (its + 1)) FindsState (address_if (its == session) its) (first_keeps (its + 1))
  other_keeps (serve.LoadsAddress its) none =
      let addr : ℕ = word_at words (session_place its own.MailAddress) in
      either_keeps (nat_lt addr begin) session (serve.StoresHeader its (gone_mail begin)) (if nat_lt addr (2 ^ 48) then serve.Reads its addr else mailbox_from sessions (its + 1)) FindsState (none_if (its == session) (serve.StoresHeader its (gone_mail begin)) none)
      (either_keeps (nat_lt addr (2 ^ 48)) session (serve.Reads its addr) (mailbox_from sessions (its + 1)) FindsState (none_if (its == session) (serve.Reads its addr) none) (first_keeps (its + 1)))
  other_keeps (serve.Reads its addr) none = none_if (its == session) (serve.StoresHeader its (mail_of read)) none
  other_keeps (serve.StoresHeader its mail) none = none_if (its == session) (serve.StoresKey its mail) none
  other_keeps (serve.StoresKey its mail) none = none_if (its == session) (serve.StoresValue its mail) none
  other_keeps (serve.StoresValue its mail) none = none_if (its == session) (serve.StoresReady its) none
  other_keeps (serve.StoresReady its) none = first_keeps (its + 1)

  pub other_finds : (step : Serving) (box : Mailbox) → is_serving session step ≡ false → FindsAsked session (serve_after sessions begin words read step) box
  unfolding serve_next serve_read serve_ask
  other_finds serve.AtRest box none = tt
  other_finds (serve.LoadsState its) box none =
      either_finds (word_at words (session_place its own.MailState) == asked_state) session (serve.LoadsAddress its) (mailbox_from sessions (its + 1)) box (λ same. not_both session its none same) (first_finds (its + 1) box)
  other_finds (serve.LoadsAddress its) box none =
      let addr : ℕ = word_at words (session_place its own.MailAddress) in
      either_finds (nat_lt addr begin) session (serve.StoresHeader its (gone_mail begin)) (if nat_lt addr (2 ^ 48) then serve.Reads its addr else mailbox_from sessions (its + 1)) box tt
      (either_finds (nat_lt addr (2 ^ 48)) session (serve.Reads its addr) (mailbox_from sessions (its + 1)) box tt (first_finds (its + 1) box))
  other_finds (serve.Reads its addr) box none = tt
  other_finds (serve.StoresHeader its mail) box none = tt
  other_finds (serve.StoresKey its mail) box none = tt
  other_finds (serve.StoresValue its mail) box none = tt
  other_finds (serve.StoresReady its) box none = first_finds (its + 1) box

-- the read, where it is one, succeeds
abbrev pub IsGiven : Serving → Bool → Type 0
IsGiven (serve.Reads session addr) done = done ≡ true
IsGiven step done = ⊤

-- what the mailbox's world comes to, where the keeper serves it
abbrev given_events : MailWorld → ℕ → List ℕ → Bool → Serving → List MailEvent
given_events w begin read done step = served_events begin (record_read read) done (mailbox_of w.words w.session).addr step

pub record ServedOwn (w : MailWorld) (sessions begin : ℕ) (read : List ℕ) (done : Bool) (step : Serving) : Type 0 where
  pub session_same : (mail_run w (given_events w begin read done step)).session ≡ w.session
  pub mailing : (mail_run w (given_events w begin read done step)).mailing ≡ w.mailing
  pub words : (mail_run w (given_events w begin read done step)).words ≡ words_after w.words (serve_ask step)
  pub serves : IsGiven step done → KeepsUp w.session (serve_after sessions begin w.words read step) (mail_run w (given_events w begin read done step)).keeping
  pub finds : IsGiven step done
      → FindsAsked w.session (serve_after sessions begin w.words read step) (mailbox_of (words_after w.words (serve_ask step)) w.session)

own_if : (session : ℕ) (step : Serving) (keeping : Keeping) (c : Bool) → c ≡ true → ServesIt step keeping → ServesIf c step keeping
own_if session step keeping c own its = subst (λ (x : Bool). ServesIf x step keeping) (sym own) its

same_test : (session : ℕ) → (session == session) ≡ true
same_test session = grind (arith, nat_tests)

module _ (w : MailWorld) (sessions begin : ℕ) (read : List ℕ) (done : Bool) where
  abbrev s : ℕ
  s = w.session

  abbrev at_state : MailWorld
  at_state = record w { keeping = FindsState }

  own_state : ServedOwn at_state sessions begin read done (serve.LoadsState s)
  unfolding mail_run serve_ask serve_next
  own_state = record {
    session_same = refl;
    mailing = refl;
    words = sym (loaded w.words (session_place s own.MailState));
    serves = λ given.
        either_keeps (word_at w.words (session_place s own.MailState) == asked_state) s (serve.LoadsAddress s) (mailbox_from sessions (s + 1)) FindsState (address_if (s == s) s)
        (idle_keeps s (mailbox_from sessions (s + 1)) (first_idle sessions (s + 1)));
    finds = λ given. by_state (word_at w.words (session_place s own.MailState) == asked_state) refl;
  }
    where
      box : Mailbox
      box = mailbox_of (slice_set w.words (session_place s own.MailState) (word_at w.words (session_place s own.MailState))) s

      by_state : (c : Bool) → (word_at w.words (session_place s own.MailState) == asked_state) ≡ c → FindsAsked s (if c then serve.LoadsAddress s else mailbox_from sessions (s + 1)) box
      by_state true e = λ same. ap (λ (x : List ℕ). (mailbox_of x s).state) (loaded w.words (session_place s own.MailState)) ∙ grind (arith, nat_tests, e)
      by_state false e = idle_finds s (mailbox_from sessions (s + 1)) box (first_idle sessions (s + 1))

  abbrev its_addr : ℕ
  its_addr = word_at w.words (session_place s own.MailAddress)

  both_serve : (given : MailRecord) → (mailbox_of w.words s).state ≡ mail_asked
      → mail_run at_state (Serves given ∷ Serves given ∷ []) ≡ record w { keeping = Reads (record { 0 = its_addr }) }
  unfolding mail_run
  both_serve given asks = takes_up at_state given refl asks

  -- what is told of a record that is gone
  gone_serves : (mailbox_of w.words s).state ≡ mail_asked
      → mail_run at_state (Serves (record_gone begin) ∷ Serves (record_gone begin) ∷ Serves (record_gone begin) ∷ []) ≡ record w { keeping = GivesHeader (record { 0 = its_addr }) (record_gone begin) }
  unfolding mail_run mail_happens
  gone_serves asks = ap (λ (x : MailWorld). mail_happens x (Serves (record_gone begin))) (both_serve (record_gone begin) asks)

  -- where the address leads, and how far the mailbox's keeper is then: below the begin, where a record can be read, and else
  abbrev met : Bool → Bool → Serving
  met gone there = if gone then serve.StoresHeader s (gone_mail begin) else (if there then serve.Reads s its_addr else mailbox_from sessions (s + 1))

  abbrev kept : Bool → Bool → Keeping
  kept gone there = if gone then GivesHeader (record { 0 = its_addr }) (record_gone begin) else (if there then Reads (record { 0 = its_addr }) else FindsState)

  own_address : (mailbox_of w.words s).state ≡ mail_asked → ServedOwn at_state sessions begin read done (serve.LoadsAddress s)
  unfolding mail_run serve_ask serve_next
  own_address asks =
      let ran : mail_run at_state (given_events at_state begin read done (serve.LoadsAddress s)) ≡ record w { keeping = kept (nat_lt its_addr begin) (nat_lt its_addr (2 ^ 48)) } = runs (nat_lt its_addr begin) (nat_lt its_addr (2 ^ 48)) in
      record {
        session_same = ap (λ (x : MailWorld). x.session) ran;
        mailing = ap (λ (x : MailWorld). x.mailing) ran;
        words = ap (λ (x : MailWorld). x.words) ran ∙ sym back;
        serves = λ given. subst (λ (x : MailWorld). KeepsUp s (met (nat_lt its_addr begin) (nat_lt its_addr (2 ^ 48))) x.keeping) (sym ran) (keeps (nat_lt its_addr begin) (nat_lt its_addr (2 ^ 48)));
        finds = λ given. finds_met (nat_lt its_addr begin) (nat_lt its_addr (2 ^ 48));
      }
    where
      after : List ℕ
      after = slice_set w.words (session_place s own.MailAddress) its_addr

      back : after ≡ w.words
      back = loaded w.words (session_place s own.MailAddress)

      runs : (gone there : Bool)
          → mail_run at_state (if gone then Serves (record_gone begin) ∷ Serves (record_gone begin) ∷ Serves (record_gone begin) ∷ [] else (if there then Serves (record_read read) ∷ Serves (record_read read) ∷ [] else []))
          ≡ record w { keeping = kept gone there }
      runs true there = gone_serves asks
      runs false true = both_serve (record_read read) asks
      runs false false = refl

      keeps : (gone there : Bool) → KeepsUp s (met gone there) (kept gone there)
      keeps true there = own_if s (serve.StoresHeader s (gone_mail begin)) (GivesHeader (record { 0 = its_addr }) (record_gone begin)) (s == s) (same_test s) (record { 0 = its_addr }, refl)
      keeps false true = own_if s (serve.Reads s its_addr) (Reads (record { 0 = its_addr })) (s == s) (same_test s) refl
      keeps false false = idle_keeps s (mailbox_from sessions (s + 1)) (first_idle sessions (s + 1))

      finds_met : (gone there : Bool) → FindsAsked s (met gone there) (mailbox_of after s)
      finds_met true there = tt
      finds_met false true = tt
      finds_met false false = idle_finds s (mailbox_from sessions (s + 1)) (mailbox_of after s) (first_idle sessions (s + 1))

  own_header : (addr : Addr) (header key value : ℕ)
      → ServedOwn (record w { keeping = GivesHeader addr (record_of header key value) }) sessions begin read done (serve.StoresHeader s (record { header = header; key = key; value = value }))
  unfolding mail_run mail_happens serve_ask serve_next
  own_header addr header key value = record { session_same = refl; mailing = refl; words = refl; serves = λ given. own_if s (serve.StoresKey s (record { header = header; key = key; value = value })) (GivesKey addr (record_of header key value)) (s == s) (same_test s) (addr, refl); finds = λ given. tt }

  own_key : (addr : Addr) (header key value : ℕ)
      → ServedOwn (record w { keeping = GivesKey addr (record_of header key value) }) sessions begin read done (serve.StoresKey s (record { header = header; key = key; value = value }))
  unfolding mail_run mail_happens serve_ask serve_next
  own_key addr header key value = record { session_same = refl; mailing = refl; words = refl; serves = λ given. own_if s (serve.StoresValue s (record { header = header; key = key; value = value })) (GivesValue addr (record_of header key value)) (s == s) (same_test s) (addr, refl); finds = λ given. tt }

  own_value : (addr : Addr) (header key value : ℕ)
      → ServedOwn (record w { keeping = GivesValue addr (record_of header key value) }) sessions begin read done (serve.StoresValue s (record { header = header; key = key; value = value }))
  unfolding mail_run mail_happens serve_ask serve_next
  own_value addr header key value = record { session_same = refl; mailing = refl; words = refl; serves = λ given. own_if s (serve.StoresReady s) (GivesReady addr (record_of header key value)) (s == s) (same_test s) (addr, record_of header key value, refl); finds = λ given. tt }

  own_ready : (addr : Addr) (its : MailRecord) → ServedOwn (record w { keeping = GivesReady addr its }) sessions begin read done (serve.StoresReady s)
  unfolding mail_run mail_happens serve_ask serve_next
  own_ready addr its = record {
    session_same = refl;
    mailing = refl;
    words = refl;
    serves = λ given. idle_keeps s (mailbox_from sessions (s + 1)) (first_idle sessions (s + 1));
    finds = λ given. idle_finds s (mailbox_from sessions (s + 1)) _ (first_idle sessions (s + 1));
  }

own_read : (w : MailWorld) (sessions begin : ℕ) (read : List ℕ) (done : Bool) (addr : ℕ)
    → ServedOwn (record w { keeping = Reads (record { 0 = addr }) }) sessions begin read done (serve.Reads w.session addr)
unfolding mail_run mail_happens serve_ask serve_read
own_read w sessions begin read true addr = record {
  session_same = refl;
  mailing = refl;
  words = refl;
  serves = λ given. own_if w.session (serve.StoresHeader w.session (mail_of read)) (GivesHeader (record { 0 = addr }) (record_read read)) (w.session == w.session) (same_test w.session) (record { 0 = addr }, refl);
  finds = λ given. tt;
}
own_read w sessions begin read false addr = record { session_same = refl; mailing = refl; words = refl; serves = λ given. cc; finds = λ given. tt }

test_same : (session its : ℕ) → (its == session) ≡ true → session ≡ its
test_same session its e = grind (arith, nat_tests, e)

keeping_at : (w : MailWorld) (sessions begin : ℕ) (read : List ℕ) (done : Bool) (step : Serving) (keeping : Keeping) → w.keeping ≡ keeping
    → ServedOwn (record w { keeping = keeping }) sessions begin read done step → ServedOwn w sessions begin read done step
keeping_at w sessions begin read done step keeping e its = subst (λ (x : Keeping). ServedOwn (record w { keeping = x }) sessions begin read done step) (sym e) its

pub own_served : (w : MailWorld) (sessions begin : ℕ) (read : List ℕ) (done : Bool) (step : Serving) → is_serving w.session step ≡ true
    → ServesIt step w.keeping → FindsAsked w.session step (mailbox_of w.words w.session) → ServedOwn w sessions begin read done step
own_served w sessions begin read done serve.AtRest at its finds = cc
own_served w sessions begin read done (serve.LoadsState session) at its finds =
    subst (λ (x : ℕ). ServedOwn w sessions begin read done (serve.LoadsState x)) (test_same w.session session at) (keeping_at w sessions begin read done (serve.LoadsState w.session) FindsState its (own_state w sessions begin read done))
own_served w sessions begin read done (serve.LoadsAddress session) at its finds =
    subst (λ (x : ℕ). ServedOwn w sessions begin read done (serve.LoadsAddress x)) (test_same w.session session at)
    (keeping_at w sessions begin read done (serve.LoadsAddress w.session) FindsState its (own_address w sessions begin read done (finds (sym (test_same w.session session at)))))
own_served w sessions begin read done (serve.Reads session addr) at its finds =
    subst (λ (x : ℕ). ServedOwn w sessions begin read done (serve.Reads x addr)) (test_same w.session session at) (keeping_at w sessions begin read done (serve.Reads w.session addr) (Reads (record { 0 = addr })) its (own_read w sessions begin read done addr))
own_served w sessions begin read done (serve.StoresHeader session mail) at its finds =
    subst (λ (x : ℕ). ServedOwn w sessions begin read done (serve.StoresHeader x mail)) (test_same w.session session at)
    (keeping_at w sessions begin read done (serve.StoresHeader w.session mail) (GivesHeader its.0 (record_of mail.header mail.key mail.value)) its.1 (own_header w sessions begin read done its.0 mail.header mail.key mail.value))
own_served w sessions begin read done (serve.StoresKey session mail) at its finds =
    subst (λ (x : ℕ). ServedOwn w sessions begin read done (serve.StoresKey x mail)) (test_same w.session session at)
    (keeping_at w sessions begin read done (serve.StoresKey w.session mail) (GivesKey its.0 (record_of mail.header mail.key mail.value)) its.1 (own_key w sessions begin read done its.0 mail.header mail.key mail.value))
own_served w sessions begin read done (serve.StoresValue session mail) at its finds =
    subst (λ (x : ℕ). ServedOwn w sessions begin read done (serve.StoresValue x mail)) (test_same w.session session at)
    (keeping_at w sessions begin read done (serve.StoresValue w.session mail) (GivesValue its.0 (record_of mail.header mail.key mail.value)) its.1 (own_value w sessions begin read done its.0 mail.header mail.key mail.value))
own_served w sessions begin read done (serve.StoresReady session) at its finds =
    subst (λ (x : ℕ). ServedOwn w sessions begin read done (serve.StoresReady x)) (test_same w.session session at)
    (keeping_at w sessions begin read done (serve.StoresReady w.session) (GivesReady its.0 its.1) its.2 (own_ready w sessions begin read done its.0 its.1))
