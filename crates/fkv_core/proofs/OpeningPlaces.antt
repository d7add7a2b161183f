-- The words of an opened store, read at their places.
use Rattle.std.proofs.Common.{◌≡◌, ◌∙◌, ap, sym, refl, arith, inl, inr, ℕ, zero, suc, ◌+◌, ◌-◌, ◌*◌, ◌<◌, List, ◌++◌}
use Rattle.std.specs.Prelude.{replicate, take}
use Rattle.std.proofs.lemmas.Bool.{cases_lt}
use Rattle.std.proofs.lemmas.List.{append_assoc, get_or-append-add, get_or-append_right, get_or-replicate, get_or_append_left}
use Rattle.fkv_base.specs.Limits.{drain_slots}
use Rattle.fkv_base.specs.declared.numbers.Addr.{Addr}
use Rattle.fkv_plane.specs.Asked.{word_at}
use Rattle.fkv_opening.specs.Opening.{AreOpeningWords, AreSessionWords}
use Rattle.fkv_opening.specs.declared.opened_store.Opened.{Opened}
use Rattle.fkv_opening.specs.declared.opening_words.OpeningWords.{OpeningWords}
use Rattle.fkv_opening.specs.declared.opening_words.SessionWords.{SessionWords}
use Rattle.fkv_session.specs.Sessions.{SessionState}
use Rattle.fkv_core.specs.OpeningPlaces.{HasSeen, StandAsTold, StandOfSession, StandOnce}
use Rattle.fkv_core.specs.Openings.{IsOpeningSession}
use Rattle.fkv_core.specs.OpeningWords.{AreWordsOfOpened, frames_of, words_of_session, words_of_sessions, words_once}
use Rattle.fkv_core.proofs.Lengths.{length-sessions}
use Rattle.fkv_core.proofs.Named.{cut_so, phase_so}

-- word k of session s, among those of the first n
own_word : (o : Opened) (n s k : ℕ) → s < n → k < 16 → word_at (words_of_sessions o n) (16 * s + k) ≡ word_at (words_of_session o s) k
unfolding words_of_sessions
own_word o zero s k few small = absurd (omega (arith, few))
own_word o (suc n) s k few small = elim (cases_lt s n) [
  | inl before ↦ get_or_append_left (words_of_sessions o n) (words_of_session o n) 0 (16 * s + k) (let many = length-sessions o n in omega (arith, before, small, many)) ∙ own_word o n s k before small
  | inr last ↦
      let same : s ≡ n = omega (arith, few, last) in
      let many = length-sessions o n in
      get_or-append_right (words_of_sessions o n) (words_of_session o n) (16 * n) (16 * s + k) 0 many (omega (arith, same))
      ∙ (let e : 16 * s + k - 16 * n ≡ k = omega (arith, same) in ap (word_at (words_of_session o n)) e)
      ∙ ap (λ (m : ℕ). word_at (words_of_session o m) k) (sym same)
]

-- the words are those that the store has once, then those of its sessions, and the rest
record IsParted (o : Opened) (words : List ℕ) : Type 0 where
  taken : ℕ
  rest : List ℕ
  whole : words ≡ words_once o taken ++ (words_of_sessions o o.shape.sessions ++ rest)

parted : (o : Opened) (words : List ℕ) → AreWordsOfOpened o words → IsParted o words
parted o words are =
    let once : List ℕ = words_once o are.taken in
    let own : List ℕ = words_of_sessions o o.shape.sessions in
    let frames : List ℕ = frames_of o in
    record {
      taken = are.taken;
      rest = are.index ++ frames;
      whole = are.whole ∙ (append_assoc (once ++ own) are.index frames ∙ append_assoc once own (are.index ++ frames));
    }

once_word : (o : Opened) (words : List ℕ) (p : IsParted o words) (place : ℕ) → place < 24 → word_at words place ≡ word_at (words_once o p.taken) place
once_word o words p place low = ap (λ (all : List ℕ). word_at all place) p.whole ∙ get_or_append_left (words_once o p.taken) _ 0 place (omega (arith, low))

own_word_at : (o : Opened) (words : List ℕ) (p : IsParted o words) (s k : ℕ) → s < o.shape.sessions → k < 16 → word_at words (24 + 16 * s + k) ≡ word_at (words_of_session o s) k
own_word_at o words p s k few small =
    let many = length-sessions o o.shape.sessions in
    ap (λ (all : List ℕ). word_at all (24 + 16 * s + k)) p.whole
    ∙ get_or-append_right (words_once o p.taken) (words_of_sessions o o.shape.sessions ++ p.rest) 24 (24 + 16 * s + k) 0 refl (omega arith)
    ∙ (let e : 24 + 16 * s + k - 24 ≡ 16 * s + k = omega arith in ap (word_at (words_of_sessions o o.shape.sessions ++ p.rest)) e)
    ∙ get_or_append_left (words_of_sessions o o.shape.sessions) p.rest 0 (16 * s + k) (omega (arith, many, few, small))
    ∙ own_word o o.shape.sessions s k few small

drain_is_free : (o : Opened) (taken slot : ℕ) → slot < drain_slots → word_at (words_once o taken) (16 + slot) ≡ 0
drain_is_free o taken slot small = get_or-append-add (take 16 (words_once o taken)) (replicate drain_slots 0) slot 0 ∙ get_or-replicate drain_slots slot 0 0 small

stand_once : (o : Opened) (words : List ℕ) (p : IsParted o words) (its : OpeningWords) → AreOpeningWords o its → StandOnce its words
stand_once o words p its are = record {
  epoch = once_word o words p 0 (omega arith) ∙ sym are.epoch;
  safe_epoch = once_word o words p 1 (omega arith) ∙ sym are.safe_epoch;
  phase = once_word o words p 2 (omega arith) ∙ sym (phase_so o its.phase are.version are.phase);
  tail = once_word o words p 3 (omega arith) ∙ sym (ap (λ (a : Addr). a.0) are.tail);
  limit = once_word o words p 4 (omega arith) ∙ sym are.limit;
  read_only = once_word o words p 5 (omega arith) ∙ sym (ap (λ (a : Addr). a.0) are.read_only);
  safe_read_only = once_word o words p 6 (omega arith) ∙ sym (ap (λ (a : Addr). a.0) are.safe_read_only);
  flushed = once_word o words p 7 (omega arith) ∙ sym (ap (λ (a : Addr). a.0) are.flushed);
  head = once_word o words p 8 (omega arith) ∙ sym (ap (λ (a : Addr). a.0) are.head);
  closed = once_word o words p 9 (omega arith) ∙ sym (ap (λ (a : Addr). a.0) are.closed);
  drain = λ slot small. once_word o words p (16 + slot) (omega (arith, small)) ∙ drain_is_free o p.taken slot small ∙ sym are.drain;
}

stand_of_session : (o : Opened) (words : List ℕ) (p : IsParted o words) (s : ℕ) (its : SessionWords) → s < o.shape.sessions → AreSessionWords o s its → StandOfSession s its words
stand_of_session o words p s its few are = record {
  epoch = own_word_at o words p s 0 few (omega arith) ∙ sym are.epoch;
  even_cut = own_word_at o words p s 1 few (omega arith) ∙ sym (cut_so o s 0 its.even_cut are.even_cut);
  odd_cut = own_word_at o words p s 2 few (omega arith) ∙ sym (cut_so o s 1 its.odd_cut are.odd_cut);
  owing = own_word_at o words p s 3 few (omega arith) ∙ sym are.owing;
  durable = own_word_at o words p s 4 few (omega arith) ∙ sym are.durable;
  mail_state = own_word_at o words p s 5 few (omega arith) ∙ sym are.mail_state;
  mail_address = own_word_at o words p s 6 few (omega arith) ∙ sym are.mail_address;
  mail_header = own_word_at o words p s 7 few (omega arith) ∙ sym are.mail_header;
  mail_key = own_word_at o words p s 8 few (omega arith) ∙ sym are.mail_key;
  mail_value = own_word_at o words p s 9 few (omega arith) ∙ sym are.mail_value;
}

pub stand_as_told : (o : Opened) (words : List ℕ) → AreWordsOfOpened o words → StandAsTold o words
stand_as_told o words are =
    let p : IsParted o words = parted o words are in
    record { once = λ its told. stand_once o words p its told; sessions = λ session its few told. stand_of_session o words p session its few told }

pub seen_as_told : (o : Opened) (session : ℕ) (s : SessionState) (once : OpeningWords) (its : SessionWords) → IsOpeningSession o session s → AreOpeningWords o once → AreSessionWords o session its → HasSeen once its s
seen_as_told o session s once its opens are own =
    let saw = opens.saw in
    record {
      phase = saw.phase ∙ sym are.phase;
      version = saw.version ∙ sym are.version;
      head = saw.head ∙ sym are.head;
      read_only = saw.read_only ∙ sym are.read_only;
      serial = opens.serial ∙ sym own.durable;
    }
