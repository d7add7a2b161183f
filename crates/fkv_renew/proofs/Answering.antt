-- Answers, and what is written of them.
use Rattle.std.proofs.Common.{◌≡◌, inl, inr, ℕ, List, [], ◌++◌, Option, refl, sym, ap, subst, ◌∙◌, Result, Ok, Err, IfOk, OnErr, codes}
use Rattle.std.specs.Io.KnownBytes.{Appends}
use Rattle.fkv_runs.specs.Below.fkv_playing.InTurn.{Writes}
use Rattle.fkv_runs.specs.Beginnings.{BreaksOff}
use Rattle.fkv_runs.proofs.Shown.{text_breaks}
use Rattle.fkv_texts.specs.Lines.{line_of}
use Rattle.fkv_texts.specs.Refusals.{last_refusal}
use Rattle.clap.specs.Walk.{Text}
use Rattle.fkv_renew.specs.Answers.{IsAnswer, IsAnswerTo, fault_of_refusal, status_of_refusal}
use Rattle.fkv_renew.specs.Asked.{AskFor, TellsAsked}
use Rattle.fkv_renew.specs.Files.{Files}
use Rattle.fkv_renew.specs.Renewals.{IsRefusal, IsSavedFrom}
use Rattle.fkv_renew.specs.Saved.{saved_text}
use Rattle.fkv_renew.specs.declared.answers.Answer.{Answer}
use Rattle.fkv_renew.specs.declared.renewals.Refusal.{Refusal}
use Rattle.fkv_renew.specs.declared.saved.Saved.{Saved}
use Rattle.fkv_renew.specs.declared.words.Asked.{Asked}
use Rattle.fkv_renew.specs.declared.words.WordFault.{WordFault}
use Rattle.fkv_renew.specs.declared.words.WordFault.TheVariants.{Memory as NoMemory}
use Rattle.fkv_renew.proofs.Refusing.{tells_back}

module _ {D : Type 0} (files : Files D) where
  module _ {E : Type 0} where
    -- an answer to what is asked for is one to the words
    pub answers_words : (words : List Text) (asked : Asked) → AskFor words asked → (result : Result Answer E) → IfOk result (λ a. IsAnswerTo files asked a.status a.text.items)
        → IfOk result (λ a. IsAnswer files words a.status a.text.items)
    answers_words words asked ask (Ok a) h = inl (asked, ask, h)
    answers_words words asked ask (Err error) h = tt

    -- and so is the line of words that are refused
    pub refuses_words : (words : List Text) (fault : WordFault) → TellsAsked words (Err fault) → (result : Result Answer E) → IfOk result (λ a. ¬ (fault ≡ NoMemory)) → IfOk result (λ a. a.status ≡ 2)
        → IfOk result (λ a. a.text.items ≡ line_of (codes "options")) → IfOk result (λ a. IsAnswer files words a.status a.text.items)
    refuses_words words fault told (Ok a) other status text = inr (tells_back words fault told other, status, text)
    refuses_words words fault told (Err error) other status text = tt

    -- a refusal is an answer to what is asked for
    pub refusal_answers : (asked : Asked) (its : Refusal) → IsRefusal files asked its → (result : Result Answer E) → IfOk result (λ a. a.status ≡ status_of_refusal its)
        → IfOk result (λ a. a.text.items ≡ last_refusal (fault_of_refusal its)) → IfOk result (λ a. IsAnswerTo files asked a.status a.text.items)
    refusal_answers asked its is (Ok a) status text = inr (its, is, status, text)
    refusal_answers asked its is (Err error) status text = tt

  -- what is saved, written into memory behind nothing, is an answer to what is asked for
  pub saved_answers : (asked : Asked) (saved : Saved) (front items : List ℕ) → IsSavedFrom files asked saved → front ≡ [] → items ≡ front ++ saved_text saved → IsAnswerTo files asked 0 items
  saved_answers asked saved front items is nothing h = inl (saved, is, refl, h ∙ ap (λ (xs : List ℕ). xs ++ saved_text saved) nothing)

module _ {E : Type 0} (Its : ℕ → List ℕ → Type 0) (status : ℕ) (text : List ℕ) (its : Its status text) (a b : Option (List ℕ)) where
  -- what is written is the answer
  pub answered : (result : Result ℕ E) → IfOk result (λ told. told ≡ status) → IfOk result (λ told. Appends a b text) → IfOk result (λ told. Writes (Its told) a b)
  answered (Err error) same h = tt
  answered (Ok told) same h = (text, subst (λ (n : ℕ). Its n text) (sym same) its, h)

  -- or a beginning of it
  pub breaks : (result : Result ℕ E) → OnErr result (BreaksOff (λ said. said ≡ text) a b) → OnErr result (BreaksOff (λ said. (n : ℕ) × Its n said) a b)
  breaks (Ok told) h = tt
  breaks (Err error) h = text_breaks (λ said. (n : ℕ) × Its n said) text a b (status, its) h

-- what is said of an error stands of each
pub when_err : {T E P : Type 0} (r : Result T E) → P → OnErr r P
when_err (Ok value) h = tt
when_err (Err error) h = h
