use Rattle.fkv_session.proofs.contexts.Context.refusal_of.Goals as goal

pub returns-else-is_spent-clause-room : goal.returns-else-is_spent-clause-room
returns-else-is_spent-clause-room c = record { fewer = rw (← c.self.view_is) (c.is_full.ensures.room c.if-is_full.false); serial_left = c.is_spent.ensures.left c.if-is_spent.false }
