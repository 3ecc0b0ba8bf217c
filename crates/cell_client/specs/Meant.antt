-- What a verdict that was found means, and what its client alone is told of it.
use Rattle.std.specs.Prelude.{Bool, true, false, is_some, List, [], ◌∷◌, Option, None, Some}
use Rattle.mms_types.specs.declared.event.What.TheVariants.{Abort}
use Rattle.mms_types.specs.declared.pdu.Pdu.TheVariants as pdu
use Rattle.association.specs.Client.{ClientRow}
use Rattle.association.specs.Negotiation.{negotiation}
use Rattle.cell_client.specs.declared.verdict.Came.{Came as CameBorrowed}
use Rattle.cell_client.specs.declared.verdict.Came.TheVariants as borrowed
use Rattle.cell_client.specs.declared.acts.Act.{Act}
use Rattle.cell_client.specs.declared.acts.Act.TheVariants as act
use Rattle.cell_client.specs.declared.verdict.AtOnce.{AtOnce}
use Rattle.cell_client.specs.declared.verdict.AtOnce.TheVariants as said
use Rattle.cell_client.specs.declared.verdict.Found.{Found}
use Rattle.cell_client.specs.declared.verdict.Found.TheVariants as found
use Rattle.cell_client.specs.Association.{Verdict, Tells, Takes, Replies, Exhausts, Concludes, Cancels, Aborts, Came, Arrives, Ends, Fails, keeps_open, sends, negotiated, unknown_error}
use Rattle.cell_client.specs.Effects.{Effect, Sends, Settles}
use Rattle.cell_client.specs.Requests.{plain_answer, request_told, size_of}

abbrev pub effects_of : AtOnce → List Effect
effects_of said.Nothing = []
effects_of said.Abort = Sends Abort ∷ []
effects_of (said.Reject reject) = sends (pdu.Reject reject) ∷ []
effects_of (said.Negotiation proposal) = negotiated (negotiation proposal.now)
effects_of said.NoConclusion = keeps_open
effects_of (said.NoCancel invoke) = sends (pdu.CancelError (record { invoke = invoke; error = unknown_error })) ∷ []
effects_of (said.Settles number) = Settles number ∷ []

abbrev pub came : CameBorrowed → Came
came (borrowed.Arrives segment) = Arrives segment.now
came borrowed.Ends = Ends
came borrowed.Fails = Fails

abbrev pub meant : Found → Verdict
meant (found.Tells told) = Tells (effects_of told)
meant (found.Takes invoke asked) = Takes invoke asked.now
meant (found.Replies number answer) = Replies number (came answer)
meant found.Concludes = Concludes
meant (found.Cancels invoke) = Cancels invoke
meant found.Aborts = Aborts

-- whether a verdict on what the client of a row sends is done on that row alone
abbrev pub uses_no_table : ClientRow → Verdict → Bool
uses_no_table row (Tells effects) = true
uses_no_table row (Takes invoke asked) = is_some (plain_answer row asked)
uses_no_table row other = false

-- and what the client is told of it then: all that it is told at once, or the answer to its request
abbrev pub told_alone : ClientRow → Verdict → List Effect
told_alone row (Tells effects) = effects
told_alone row (Takes invoke asked) = request_told (size_of row.association) invoke None (plain_answer row asked)
told_alone row other = []

-- the verdict that is left to be done by what a client does; a loss is none
abbrev pub act_verdict : Act → Option Verdict
act_verdict (act.Request invoke asked) = Some (Takes invoke asked.now)
act_verdict (act.Reply number answer) = Some (Replies number (came answer))
act_verdict act.Conclusion = Some Concludes
act_verdict (act.Cancel invoke) = Some (Cancels invoke)
act_verdict act.Abort = Some Aborts
act_verdict (act.Exhausts invoke) = Some (Exhausts invoke)
act_verdict act.Loss = None
