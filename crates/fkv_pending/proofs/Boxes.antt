-- What a step leaves of a mailbox.
use Rattle.std.proofs.Common.{◌≡◌, ◌⊎◌, inl, inr, ℕ, ◌<◌, List, length, refl, ap, arith, Bool, true, false}
use Rattle.std.specs.Prelude.{slice_set}
use Rattle.std.proofs.lemmas.Bool.Decides.{nat_tests}
use Rattle.std.proofs.lemmas.List.{get_or-set_same, get_or-set_other, set-get_or}
use Rattle.fkv_plane.specs.declared.places.SessionWord.TheVariants as own
use Rattle.fkv_plane.specs.Places.{session_place}
use Rattle.fkv_plane.specs.Asked.{word_at, words_after, reply_to}
use Rattle.fkv_pending.specs.declared.mailing.Mailing.{Mailing}
use Rattle.fkv_pending.specs.declared.mailing.Mailing.TheVariants.{Ended, LoadsState, LoadsHeader, LoadsKey, LoadsValue, StoresEmpty, StoresAddress, StoresAsked}
use Rattle.fkv_pending.specs.Mailing.{mail_empty, mail_asked, mail_ready, mail_ask}
use Rattle.fkv_pending.specs.MailWorld.{Mailbox, mailbox_of, is_mail_place, Keeping, FindsState, FindsAddress, Reads, GivesHeader, GivesKey, GivesValue, GivesReady, keeper_words}

pub truth : (b : Bool) → (b ≡ true) ⊎ (b ≡ false)
truth true = inl refl
truth false = inr refl

abbrev pub box_with : ℕ → ℕ → ℕ → ℕ → ℕ → Mailbox
box_with state addr header key value = record { state = state; addr = addr; header = header; key = key; value = value }

boxed : (words : List ℕ) (s a b c d e : ℕ) → word_at words (session_place s own.MailState) ≡ a → word_at words (session_place s own.MailAddress) ≡ b → word_at words (session_place s own.MailHeader) ≡ c
    → word_at words (session_place s own.MailKey) ≡ d → word_at words (session_place s own.MailValue) ≡ e → mailbox_of words s ≡ box_with a b c d e
boxed words s a b c d e p q r u v = rw (p, q, r, u, v) refl

-- the session's step, by how far its machine has come
abbrev pub box_moved : Mailbox → Mailing → Mailbox
box_moved b (StoresEmpty its) = record b { state = mail_empty }
box_moved b (StoresAddress addr) = record b { addr = addr.0 }
box_moved b StoresAsked = record b { state = mail_asked }
box_moved b step = b

-- the keeper's step
abbrev pub box_served : Mailbox → Keeping → Mailbox
box_served b (GivesHeader addr its) = record b { header = its.header }
box_served b (GivesKey addr its) = record b { key = its.key.0 }
box_served b (GivesValue addr its) = record b { value = its.value }
box_served b (GivesReady addr its) = record b { state = mail_ready }
box_served b keeping = b

module _ (words : List ℕ) (s : ℕ) (enough : session_place s own.MailValue < length words) where
  abbrev box : Mailbox
  box = mailbox_of words s

  stored_state : (n : ℕ) → mailbox_of (slice_set words (session_place s own.MailState) n) s ≡ record box { state = n }
  stored_state n =
      let at : ℕ = session_place s own.MailState in
      boxed (slice_set words at n) s n box.addr box.header box.key box.value
      (get_or-set_same words at n 0 (omega (arith, enough))) (get_or-set_other words at _ n 0 (λ e. omega (arith, e))) (get_or-set_other words at _ n 0 (λ e. omega (arith, e)))
      (get_or-set_other words at _ n 0 (λ e. omega (arith, e))) (get_or-set_other words at _ n 0 (λ e. omega (arith, e)))

  stored_address : (n : ℕ) → mailbox_of (slice_set words (session_place s own.MailAddress) n) s ≡ record box { addr = n }
  stored_address n =
      let at : ℕ = session_place s own.MailAddress in
      boxed (slice_set words at n) s box.state n box.header box.key box.value
      (get_or-set_other words at _ n 0 (λ e. omega (arith, e))) (get_or-set_same words at n 0 (omega (arith, enough))) (get_or-set_other words at _ n 0 (λ e. omega (arith, e)))
      (get_or-set_other words at _ n 0 (λ e. omega (arith, e))) (get_or-set_other words at _ n 0 (λ e. omega (arith, e)))

  stored_header : (n : ℕ) → mailbox_of (slice_set words (session_place s own.MailHeader) n) s ≡ record box { header = n }
  stored_header n =
      let at : ℕ = session_place s own.MailHeader in
      boxed (slice_set words at n) s box.state box.addr n box.key box.value
      (get_or-set_other words at _ n 0 (λ e. omega (arith, e))) (get_or-set_other words at _ n 0 (λ e. omega (arith, e))) (get_or-set_same words at n 0 (omega (arith, enough)))
      (get_or-set_other words at _ n 0 (λ e. omega (arith, e))) (get_or-set_other words at _ n 0 (λ e. omega (arith, e)))

  stored_key : (n : ℕ) → mailbox_of (slice_set words (session_place s own.MailKey) n) s ≡ record box { key = n }
  stored_key n =
      let at : ℕ = session_place s own.MailKey in
      boxed (slice_set words at n) s box.state box.addr box.header n box.value
      (get_or-set_other words at _ n 0 (λ e. omega (arith, e))) (get_or-set_other words at _ n 0 (λ e. omega (arith, e))) (get_or-set_other words at _ n 0 (λ e. omega (arith, e)))
      (get_or-set_same words at n 0 (omega (arith, enough))) (get_or-set_other words at _ n 0 (λ e. omega (arith, e)))

  stored_value : (n : ℕ) → mailbox_of (slice_set words (session_place s own.MailValue) n) s ≡ record box { value = n }
  stored_value n =
      let at : ℕ = session_place s own.MailValue in
      boxed (slice_set words at n) s box.state box.addr box.header box.key n
      (get_or-set_other words at _ n 0 (λ e. omega (arith, e))) (get_or-set_other words at _ n 0 (λ e. omega (arith, e))) (get_or-set_other words at _ n 0 (λ e. omega (arith, e)))
      (get_or-set_other words at _ n 0 (λ e. omega (arith, e))) (get_or-set_same words at n 0 (omega (arith, enough)))

  -- a word that is none of the mailbox
  pub spared_box : (place n : ℕ) → is_mail_place s place ≡ false → mailbox_of (slice_set words place n) s ≡ box
  spared_box place n none =
      boxed (slice_set words place n) s box.state box.addr box.header box.key box.value
      (get_or-set_other words place _ n 0 (λ e. grind (arith, nat_tests, none, e))) (get_or-set_other words place _ n 0 (λ e. grind (arith, nat_tests, none, e)))
      (get_or-set_other words place _ n 0 (λ e. grind (arith, nat_tests, none, e))) (get_or-set_other words place _ n 0 (λ e. grind (arith, nat_tests, none, e)))
      (get_or-set_other words place _ n 0 (λ e. grind (arith, nat_tests, none, e)))

  loads : (place : ℕ) → mailbox_of (slice_set words place (word_at words place)) s ≡ box
  loads place = ap (λ ws. mailbox_of ws s) (set-get_or words place 0)

  pub moved_box : (step : Mailing) → mailbox_of (words_after words (mail_ask s step)) s ≡ box_moved box step
  unfolding mail_ask
  moved_box (Ended its) = refl
  moved_box (LoadsState task) = loads (session_place s own.MailState)
  moved_box LoadsHeader = loads (session_place s own.MailHeader)
  moved_box (LoadsKey header) = loads (session_place s own.MailKey)
  moved_box (LoadsValue header key) = loads (session_place s own.MailValue)
  moved_box (StoresEmpty its) = stored_state mail_empty
  moved_box (StoresAddress addr) = stored_address addr.0
  moved_box StoresAsked = stored_state mail_asked

  pub served_box : (keeping : Keeping) → mailbox_of (keeper_words s words keeping) s ≡ box_served box keeping
  served_box FindsState = refl
  served_box FindsAddress = refl
  served_box (Reads addr) = refl
  served_box (GivesHeader addr its) = stored_header its.header
  served_box (GivesKey addr its) = stored_key its.key.0
  served_box (GivesValue addr its) = stored_value its.value
  served_box (GivesReady addr its) = stored_state mail_ready

-- what the session's step is replied
abbrev pub reply_in : Mailbox → Mailing → ℕ
reply_in b (Ended its) = 0
reply_in b (LoadsState task) = b.state
reply_in b LoadsHeader = b.header
reply_in b (LoadsKey header) = b.key
reply_in b (LoadsValue header key) = b.value
reply_in b (StoresEmpty its) = b.state
reply_in b (StoresAddress addr) = b.addr
reply_in b StoresAsked = b.state

pub replied_in : (words : List ℕ) (s : ℕ) (step : Mailing) → reply_to words (mail_ask s step) ≡ reply_in (mailbox_of words s) step
unfolding mail_ask
replied_in words s (Ended its) = refl
replied_in words s (LoadsState task) = refl
replied_in words s LoadsHeader = refl
replied_in words s (LoadsKey header) = refl
replied_in words s (LoadsValue header key) = refl
replied_in words s (StoresEmpty its) = refl
replied_in words s (StoresAddress addr) = refl
replied_in words s StoresAsked = refl
