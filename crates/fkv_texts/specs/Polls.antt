-- The lines of the requests that a poll has finished.
use Rattle.std.specs.Prelude.{ℕ, List, ◌++◌, codes, Bool, nat_eq, Option, Some, None, option_map, reverse}
use Rattle.std.specs.List.{find, flat_map}
use Rattle.std.specs.Fmt.{decimal}
use Rattle.fkv_base.specs.declared.numbers.Key.{Key}
use Rattle.fkv_base.specs.declared.numbers.Value.{Value}
use Rattle.fkv_map.specs.declared.operations.Reply.{Reply}
use Rattle.fkv_map.specs.declared.operations.Reply.TheVariants.{Found, Absent}
use Rattle.fkv_pending.specs.declared.pending_requests.Ticket.{Ticket}
use Rattle.fkv_session.specs.declared.answers.Finished.{Finished}
use Rattle.fkv_session.specs.declared.answers.Finished.TheVariants.{Update, Read}
use Rattle.fkv_texts.specs.declared.polls.WaitingRead.{WaitingRead}
use Rattle.fkv_texts.specs.Lines.{session_line, key_word, reply_text}

abbrev pub has_ticket : Ticket → WaitingRead → Bool
has_ticket ticket read = nat_eq read.ticket.0 ticket.0

-- the key of the last waiting read with this ticket
abbrev pub key_of_ticket : List WaitingRead → Ticket → Option Key
key_of_ticket waiting ticket = option_map (λ read. read.key) (find (has_ticket ticket) (reverse waiting))

-- what a read replied that found this value, or none
abbrev pub reply_of_read : Option Value → Reply
reply_of_read (Some value) = Found value
reply_of_read None = Absent

-- `#5 done`, `#5 = 11`, `@1 get 7 = 10` or `@1 get 7 absent`
abbrev pub finished_text : List WaitingRead → Finished → List ℕ
finished_text waiting (Update serial reply) = codes "#" ++ decimal serial.0 ++ reply_text reply
finished_text waiting (Read ticket value) =
    codes "@" ++ decimal ticket.0 ++ codes " get" ++ key_word (key_of_ticket waiting ticket) ++ reply_text (reply_of_read value)

abbrev pub finished_line : ℕ → List WaitingRead → Finished → List ℕ
finished_line session waiting its = session_line session (finished_text waiting its)

-- a line for each of these requests, in their order
abbrev pub finished_lines : ℕ → List WaitingRead → List Finished → List ℕ
finished_lines session waiting finished = flat_map (finished_line session waiting) finished
