-- Areas of services, and what follows from a list of services.
use Rattle.std.specs.Prelude.{ℕ, List, [], ◌∷◌, ◌++◌}
use Rattle.mms_types.specs.declared.pdu.Request.{Request}
use Rattle.mms_types.specs.declared.pdu.Answer.{Answer}
use Rattle.mms_types.specs.declared.pdu.ServerRequest.{ServerRequest}
use Rattle.mms_types.specs.declared.pdu.ClientAnswer.{ClientAnswer}
use Rattle.pdu_areas.specs.Services.{Arm, Service, of_clients, of_server}
use Rattle.pdu_areas.specs.Joined.{Share}

-- the numbers of all services, whoever asks them
abbrev pub numbers_of : List Service → List ℕ
numbers_of [] = []
numbers_of (of_clients asks answers ∷ more) = asks.number ∷ numbers_of more
numbers_of (of_server asks answers ∷ more) = asks.number ∷ numbers_of more

-- what clients ask
abbrev pub asks_of : List Service → List (Arm Request)
asks_of [] = []
asks_of (of_clients asks answers ∷ more) = asks ∷ asks_of more
asks_of (of_server asks answers ∷ more) = asks_of more

-- what the server answers them
abbrev pub answers_of : List Service → List (Arm Answer)
answers_of [] = []
answers_of (of_clients asks answers ∷ more) = answers ∷ answers_of more
answers_of (of_server asks answers ∷ more) = answers_of more

-- what the server asks
abbrev pub server_asks_of : List Service → List (Arm ServerRequest)
server_asks_of [] = []
server_asks_of (of_clients asks answers ∷ more) = server_asks_of more
server_asks_of (of_server asks answers ∷ more) = asks ∷ server_asks_of more

-- what a client answers it
abbrev pub client_answers_of : List Service → List (Arm ClientAnswer)
client_answers_of [] = []
client_answers_of (of_clients asks answers ∷ more) = client_answers_of more
client_answers_of (of_server asks answers ∷ more) = answers ∷ client_answers_of more

-- the services of an area, and what clients ask of it and it answers
pub record Area : Type 0 where
  pub services : List Service
  pub requests : Share Request
  pub answers : Share Answer

abbrev pub services_of : List Area → List Service
services_of [] = []
services_of (a ∷ more) = a.services ++ services_of more

abbrev pub requests_of : List Area → List (Share Request)
requests_of [] = []
requests_of (a ∷ more) = a.requests ∷ requests_of more

abbrev pub answers_in : List Area → List (Share Answer)
answers_in [] = []
answers_in (a ∷ more) = a.answers ∷ answers_in more
