-- The words that a store has once, and those of a session, name by name.
use Rattle.std.proofs.Common.{◌≡◌, ◌∙◌, ap, ℕ, Bool, true, false, ◌+◌, ◌*◌, ◌^◌, ◌%◌, [], ◌∷◌, nat_eq, if◌then◌else◌, refl}
use Rattle.fkv_base.specs.declared.numbers.Addr.{Addr}
use Rattle.fkv_base.specs.declared.phases.Phase.{Phase}
use Rattle.fkv_base.specs.declared.phases.Phase.TheVariants.{Rest}
use Rattle.fkv_marks.specs.Marks.{mark}
use Rattle.fkv_words.specs.Layout.{cut_word, phase_spelled, wide_word}
use Rattle.fkv_words.specs.Phases.{phase_number}
use Rattle.fkv_words.specs.declared.cut_word.CutWord.{CutWord}
use Rattle.fkv_words.specs.declared.wide_phase.WidePhase.{WidePhase}
use Rattle.fkv_opening.specs.Opening.{AreOpeningWords, AreSessionWords, IsOpeningCut, opening_limit, point_of}
use Rattle.fkv_opening.specs.declared.opened_store.Opened.{Opened}
use Rattle.fkv_opening.specs.declared.opening_words.OpeningWords.{OpeningWords}
use Rattle.fkv_opening.specs.declared.opening_words.SessionWords.{SessionWords}
use Rattle.fkv_core.specs.OpeningWords.{opening_cut, words_of_session, words_once}

pub phase_so : (o : Opened) (its : WidePhase) → its.version.0 ≡ o.number.0 + 1 → its.phase ≡ Rest → wide_word its ≡ phase_spelled (o.number.0 + 1) (phase_number Rest)
phase_so o its version phase = ap (λ (n : ℕ). phase_spelled n (phase_number its.phase)) version ∙ ap (λ (it : Phase). phase_spelled (o.number.0 + 1) (phase_number it)) phase

pub once_so : (o : Opened) (its : OpeningWords) (packed taken : ℕ) → AreOpeningWords o its → packed ≡ wide_word its.phase
    → its.epoch ∷ its.safe_epoch ∷ packed ∷ its.tail.0 ∷ its.limit.0 ∷ its.read_only.0 ∷ its.safe_read_only.0 ∷ its.flushed.0 ∷ its.head.0 ∷ its.closed.0 ∷ taken ∷ 0 ∷ 0 ∷ 0 ∷ 0 ∷ 0
    ∷ its.drain ∷ its.drain ∷ its.drain ∷ its.drain ∷ its.drain ∷ its.drain ∷ its.drain ∷ its.drain ∷ [] ≡ words_once o taken
once_so o its packed taken are pack =
    let epoch : its.epoch ≡ 1 = are.epoch in
    let safe : its.safe_epoch ≡ 0 = are.safe_epoch in
    let phase : packed ≡ phase_spelled (o.number.0 + 1) (phase_number Rest) = pack ∙ phase_so o its.phase are.version are.phase in
    let tail : its.tail.0 ≡ o.tail.0 = ap (λ (a : Addr). a.0) are.tail in
    let limit : its.limit.0 ≡ opening_limit o = are.limit in
    let read_only : its.read_only.0 ≡ o.tail.0 = ap (λ (a : Addr). a.0) are.read_only in
    let safe_read_only : its.safe_read_only.0 ≡ o.tail.0 = ap (λ (a : Addr). a.0) are.safe_read_only in
    let flushed : its.flushed.0 ≡ o.tail.0 = ap (λ (a : Addr). a.0) are.flushed in
    let head : its.head.0 ≡ o.warm.0 = ap (λ (a : Addr). a.0) are.head in
    let closed : its.closed.0 ≡ o.warm.0 = ap (λ (a : Addr). a.0) are.closed in
    let drain : its.drain ≡ 0 = are.drain in
    let all : its.epoch ∷ its.safe_epoch ∷ packed ∷ its.tail.0 ∷ its.limit.0 ∷ its.read_only.0 ∷ its.safe_read_only.0 ∷ its.flushed.0 ∷ its.head.0 ∷ its.closed.0 ∷ taken ∷ 0 ∷ 0 ∷ 0 ∷ 0 ∷ 0
    ∷ its.drain ∷ its.drain ∷ its.drain ∷ its.drain ∷ its.drain ∷ its.drain ∷ its.drain ∷ its.drain ∷ []
    ≡ 1 ∷ 0 ∷ phase_spelled (o.number.0 + 1) (phase_number Rest) ∷ o.tail.0 ∷ opening_limit o ∷ o.tail.0 ∷ o.tail.0 ∷ o.tail.0 ∷ o.warm.0 ∷ o.warm.0 ∷ taken ∷ 0 ∷ 0 ∷ 0 ∷ 0 ∷ 0
    ∷ 0 ∷ 0 ∷ 0 ∷ 0 ∷ 0 ∷ 0 ∷ 0 ∷ 0 ∷ [] = cc in
    all

both_or_none : (b : Bool) (serial version : ℕ) → (if b then serial else 0) + (if b then version else 0) * 2 ^ 48 ≡ (if b then serial + version * 2 ^ 48 else 0)
both_or_none true serial version = refl
both_or_none false serial version = refl

pub cut_so : (o : Opened) (session parity : ℕ) (its : CutWord) → IsOpeningCut o session parity its → cut_word its ≡ opening_cut o session parity
cut_so o session parity its is =
    let of : Bool = nat_eq (o.number.0 % 2) parity in
    ap (λ (n : ℕ). n + its.version.0 * 2 ^ 48) is.serial ∙ ap (λ (n : ℕ). (if of then point_of o session else 0) + n * 2 ^ 48) is.version
    ∙ both_or_none of (point_of o session) (mark o.number.0)

pub own_so : (o : Opened) (session : ℕ) (its : SessionWords) (even odd : ℕ) → AreSessionWords o session its → even ≡ cut_word its.even_cut → odd ≡ cut_word its.odd_cut
    → its.epoch ∷ even ∷ odd ∷ its.owing ∷ its.durable.0 ∷ its.mail_state ∷ its.mail_address ∷ its.mail_header ∷ its.mail_key ∷ its.mail_value ∷ 0 ∷ 0 ∷ 0 ∷ 0 ∷ 0 ∷ 0 ∷ [] ≡ words_of_session o session
own_so o session its even odd are pack pack' =
    let epoch : its.epoch ≡ 1 = are.epoch in
    let one : even ≡ opening_cut o session 0 = pack ∙ cut_so o session 0 its.even_cut are.even_cut in
    let other : odd ≡ opening_cut o session 1 = pack' ∙ cut_so o session 1 its.odd_cut are.odd_cut in
    let owing : its.owing ≡ 0 = are.owing in
    let durable : its.durable.0 ≡ point_of o session = are.durable in
    let state : its.mail_state ≡ 0 = are.mail_state in
    let address : its.mail_address ≡ 0 = are.mail_address in
    let header : its.mail_header ≡ 0 = are.mail_header in
    let key : its.mail_key ≡ 0 = are.mail_key in
    let value : its.mail_value ≡ 0 = are.mail_value in
    let all : its.epoch ∷ even ∷ odd ∷ its.owing ∷ its.durable.0 ∷ its.mail_state ∷ its.mail_address ∷ its.mail_header ∷ its.mail_key ∷ its.mail_value ∷ 0 ∷ 0 ∷ 0 ∷ 0 ∷ 0 ∷ 0 ∷ []
    ≡ 1 ∷ opening_cut o session 0 ∷ opening_cut o session 1 ∷ 0 ∷ point_of o session ∷ 0 ∷ 0 ∷ 0 ∷ 0 ∷ 0 ∷ 0 ∷ 0 ∷ 0 ∷ 0 ∷ 0 ∷ 0 ∷ [] = cc in
    all
