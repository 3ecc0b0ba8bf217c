-- What the clients of the trial ask (this profile's choice).
use Rattle.std.specs.Prelude.{ℕ, pos, ◌==◌, ◌%◌, ◌+◌, true, false, if◌then◌else◌, [], ◌∷◌, codes}
use Rattle.std.specs.Prelude.{Some, None}
use Rattle.mms_types.specs.Datum as datum
use Rattle.mms_types.specs.declared.initiate.Initiate.{Initiate}
use Rattle.mms_types.specs.declared.object_name.ObjectName.{ObjectName}
use Rattle.mms_types.specs.declared.object_name.ObjectName.TheVariants.{Vmd}
use Rattle.mms_types.specs.declared.variable.Spec.TheVariants.{Name}
use Rattle.mms_types.specs.declared.variable.Access.{Access}
use Rattle.mms_types.specs.declared.variable.Access.TheVariants.{Specs}
use Rattle.mms_types.specs.declared.pdu.Request.{Request}
use Rattle.mms_types.specs.declared.pdu.Request.TheVariants as request

-- what each client proposes for its association
abbrev pub proposal : Initiate
proposal = record {
  size = Some (pos 65000);
  calling = pos 10;
  called = pos 10;
  nesting = Some (pos 5);
  detail = record {
    version = pos 1;
    parameters = record { octets = 241 ∷ 0 ∷ [] };
    services = record { octets = 238 ∷ 28 ∷ 0 ∷ 0 ∷ 4 ∷ 8 ∷ 0 ∷ 0 ∷ 121 ∷ 239 ∷ 24 ∷ [] };
  };
}

-- the semaphore T of the VMD
abbrev pub semaphore : ObjectName
semaphore = Vmd (codes "T")

-- the variable V of the VMD, the one of a list
abbrev pub variable : Access
variable = Specs (Name (Vmd (codes "V")) ∷ [])

-- T has one token
abbrev pub define : Request
define = request.DefineSemaphore (record { name = semaphore; tokens = 1 })

abbrev pub read : Request
read = request.Read (record { with_access = false; access = variable })

abbrev pub write : ℕ → Request
write number =
    request.Write (record { access = variable; values = datum.integer (pos number) ∷ [] })

-- a token of T, for which the client waits 5 ms at most
abbrev pub take : Request
take = request.TakeControl (record {
  name = semaphore;
  token = None;
  priority = 64;
  delay = Some 5;
  control = None;
  abort = None;
  relinquish = true;
  preempt = None;
})

abbrev pub relinquish : Request
relinquish = request.RelinquishControl (record { name = semaphore; token = None })

-- what a random word has a client ask in the round of this number: a word modulo 4 is one of four
abbrev pub asked : ℕ → ℕ → Request
asked word round =
    if word % 4 == 0 then read
    else if word % 4 == 1 then write round
    else if word % 4 == 2 then take
    else relinquish

-- A client's k-th confirmed request has the invokeID k. It has one in each round, and client 1 one
-- before the first.
abbrev pub invoke_of : ℕ → ℕ → ℕ
invoke_of client round = if client == 1 then round + 1 else round
