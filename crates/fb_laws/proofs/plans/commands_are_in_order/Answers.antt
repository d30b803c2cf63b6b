pub returns : Rattle.fb_laws.proofs.plans.commands_are_in_order.Goals.returns
returns c = Rattle.fb_laws.proofs.CommandRows.in_order_of
