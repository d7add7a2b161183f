use Rattle.std.proofs.Common.{◌≡◌, ◌∙◌, ap, sym, subst, ◌++◌, List, ℕ, Option}
use Rattle.std.proofs.lemmas.Result.{on_ok_weaker}
use Rattle.std.specs.Io.KnownBytes.{Appends}
use Rattle.fkv_map.specs.declared.operations.Call.{Call}
use Rattle.fkv_session.specs.declared.answers.Answer.{Answer}
use Rattle.fkv_session.specs.declared.answers.Finished.{Finished}
use Rattle.fkv_texts.specs.declared.polls.WaitingRead.{WaitingRead}
use Rattle.fkv_texts.specs.Lines.{session_line}
use Rattle.fkv_texts.specs.Polls.{finished_lines}
use Rattle.fkv_texts.specs.Sessions.{answer_text, finished_by, session_text}
use Rattle.fkv_texts.proofs.Appending.{appends_both}
use Rattle.fkv_texts.proofs.sessions.write_answer.Goals as goal

-- the lines of what a call has finished and behind them its own are its text
answer_written : (a b c : Option (List ℕ)) (session : ℕ) (call : Call) (waiting : List WaitingRead) (answer : Answer) (finished : List Finished) (text : List ℕ)
    → finished_by answer ≡ finished → answer_text call answer ≡ text → Appends a b (finished_lines session waiting finished) → Appends b c (session_line session text)
    → Appends a c (session_text session call waiting answer)
answer_written a b c session call waiting answer finished text e f h k =
    subst (λ (its : List Finished). Appends a c (finished_lines session waiting its ++ session_line session (answer_text call answer))) (sym e)
    (subst (λ (its : List ℕ). Appends a c (finished_lines session waiting finished ++ session_line session its)) (sym f)
    (appends_both a b c (finished_lines session waiting finished) (session_line session text) h k))

pub returns-in_ok-write_finished-in-Polled : goal.returns-in_ok-write_finished-in-Polled
returns-in_ok-write_finished-in-Polled g c =
    on_ok_weaker c.write_left.result
    (λ written. answer_written _ _ _ c.args.session c.args.call c.args.waiting.now c.args.answer.now c.as_slice.result.now _
    (ap finished_by c.in-Polled.is ∙ sym c.as_slice.ensures.value) (ap (answer_text c.args.call) c.in-Polled.is)
    c.in_ok-write_finished-in-Polled.ensures written)
    c.write_left.ensures
