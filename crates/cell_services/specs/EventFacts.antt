-- What a request for event conditions and enrollments is told by other tables (this profile's choice).
use Rattle.mms_types.specs.declared.area.EventRequest.{EventRequest}
use Rattle.association.specs.Client.{ClientRow}
use Rattle.serve_events.specs.Events.{request_in}
use Rattle.cell_services.specs.Facts.{Facts}
use Rattle.cell_services.specs.Requests.{told_in}
use Rattle.cell_services.specs.Tables.{Tables, own_events}

abbrev pub event_facts : Tables → ClientRow → EventRequest → Facts
event_facts t row asked = told_in own_events t row (request_in asked)
