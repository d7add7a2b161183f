-- A flush spares each part. The keeper that serves a mailbox spares each part but this mailbox.
use Rattle.std.proofs.Common.{◌≡◌, ◌≢◌, ℕ, ◌+◌, ◌^◌, ◌<◌, ◌∙◌, refl, sym, arith, Bool, true, false}
use Rattle.std.specs.Prelude.{if◌then◌else◌, ◌==◌, nat_lt, ⊤, List}
use Rattle.std.proofs.lemmas.Bool.Decides.{nat_tests}
use Rattle.fkv_plane.specs.declared.places.Places.{Places}
use Rattle.fkv_plane.specs.declared.places.SessionWord.TheVariants as own
use Rattle.fkv_plane.specs.declared.places.SharedWord.TheVariants as one
use Rattle.law_world.specs.Below.fkv_flush.TheFlushing.{Flushing}
use Rattle.law_world.specs.Below.fkv_flush.TheFlushing.TheVariants as flush
use Rattle.law_world.specs.Below.fkv_flush.TheServing.{Serving}
use Rattle.law_world.specs.Below.fkv_flush.TheServing.TheVariants as serve
use Rattle.law_world.specs.Below.fkv_flush.Flushing.{flush_ask}
use Rattle.law_world.specs.Below.fkv_flush.Serving.{asked_state, gone_mail, serve_ask, mailbox_from, serve_next, serve_read}
use Rattle.law_refine.specs.Mail.Servers.{is_serving}
use Rattle.law_refine.specs.Footprint.{Part, TheMailbox, HasSeats, Spares}
use Rattle.law_refine.proofs.Footprint.Outside.{shared_outside, mail_outside, seat_of}

-- what a flush asks for
pub flush_spares : (part : Part) (p : Places) (step : Flushing) → Spares part p (flush_ask p step)
unfolding flush_ask
flush_spares part p (flush.RaisesFlushed end) = shared_outside part p one.Flushed (λ e. cc) (λ e. cc)
flush_spares part p step = tt

-- it is at one of so many mailboxes
abbrev pub ServesBelow : ℕ → Serving → Type 0
ServesBelow n serve.AtRest = ⊤
ServesBelow n (serve.LoadsState session) = session < n
ServesBelow n (serve.LoadsAddress session) = session < n
ServesBelow n (serve.Reads session addr) = session < n
ServesBelow n (serve.StoresHeader session mail) = session < n
ServesBelow n (serve.StoresKey session mail) = session < n
ServesBelow n (serve.StoresValue session mail) = session < n
ServesBelow n (serve.StoresReady session) = session < n

-- the part is a mailbox that isn't served
abbrev pub IsServedNot : Part → Serving → Type 0
IsServedNot part step = (session : ℕ) → part ≡ TheMailbox session → is_serving session step ≡ false

other_than : (part : Part) (session : ℕ) → (part ≡ TheMailbox session → (session == session) ≡ false) → part ≢ TheMailbox session
other_than part session none = λ same. let itself : (session == session) ≡ true = grind (arith, nat_tests) in let both : true ≡ false = sym itself ∙ none same in cc

-- what it asks for
pub serve_spares : (part : Part) (p : Places) (n : ℕ) (step : Serving) → HasSeats part p n → ServesBelow n step → IsServedNot part step → Spares part p (serve_ask step)
unfolding serve_ask
serve_spares part p n (serve.StoresHeader session mail) few low none = mail_outside part p session own.MailHeader (omega arith) (seat_of part p n session few low) (other_than part session (none session))
serve_spares part p n (serve.StoresKey session mail) few low none = mail_outside part p session own.MailKey (omega arith) (seat_of part p n session few low) (other_than part session (none session))
serve_spares part p n (serve.StoresValue session mail) few low none = mail_outside part p session own.MailValue (omega arith) (seat_of part p n session few low) (other_than part session (none session))
serve_spares part p n (serve.StoresReady session) few low none = mail_outside part p session own.MailState (omega arith) (seat_of part p n session few low) (other_than part session (none session))
serve_spares part p n step few low none = tt

-- the next mailbox is one of these, behind each reply and each read
pub mailbox_below : (n session : ℕ) → ServesBelow n (mailbox_from n session)
unfolding mailbox_from
mailbox_below n session = by_test (nat_lt session n) refl
  where
    by_test : (b : Bool) → nat_lt session n ≡ b → ServesBelow n (if b then serve.LoadsState session else serve.AtRest)
    by_test true e = grind (arith, nat_tests, e)
    by_test false e = tt

either_below : (c : Bool) (n : ℕ) (a b : Serving) → ServesBelow n a → ServesBelow n b → ServesBelow n (if c then a else b)
either_below true n a b one other = one
either_below false n a b one other = other

pub serve_below : (n begin : ℕ) (step : Serving) (reply : ℕ) → ServesBelow n step → ServesBelow n (serve_next n begin step reply)
unfolding serve_next
serve_below n begin serve.AtRest reply low = tt
serve_below n begin (serve.LoadsState session) reply low =
    either_below (reply == asked_state) n (serve.LoadsAddress session) (mailbox_from n (session + 1)) low (mailbox_below n (session + 1))
serve_below n begin (serve.LoadsAddress session) reply low =
    either_below (nat_lt reply begin) n (serve.StoresHeader session (gone_mail begin)) _ low
    (either_below (nat_lt reply (2 ^ 48)) n (serve.Reads session reply) (mailbox_from n (session + 1)) low (mailbox_below n (session + 1)))
serve_below n begin (serve.StoresReady session) reply low = mailbox_below n (session + 1)
serve_below n begin step reply low = low

pub read_below : (n : ℕ) (step : Serving) (bytes : List ℕ) → ServesBelow n step → ServesBelow n (serve_read step bytes)
unfolding serve_read
read_below n serve.AtRest bytes low = tt
read_below n step bytes low = low
