-- A confirmed request to an area, among all tables of the device (this profile's choice).
use Rattle.std.specs.Prelude.{ℕ, List, ◌++◌, Option}
use Rattle.std.specs.List.{flat_map}
use Rattle.mms_types.specs.declared.service_error.ServiceError.{ServiceError}
use Rattle.association.specs.Client.{ClientRow}
use Rattle.parted_state.specs.Area.{Own, facts_told}
pub use Rattle.cell_client.specs.Areas.{OutcomeIn, RequestIn, answers, changes, is_of_domain}
use Rattle.cell_services.specs.Facts.{Facts, tables_for, tells}
use Rattle.cell_services.specs.Tables.{Tables}

-- ---- among all tables of the device

module _ {A : Type 0} (own : Own Tables A) where
  -- the tables that it reads or changes: by its words, and by what its own table shows
  abbrev pub asks_in : RequestIn A → List ℕ
  asks_in r = own.numbers ++ flat_map tables_for r.words

  abbrev pub more_in : Tables → ClientRow → RequestIn A → List ℕ
  more_in t row r = flat_map tables_for (r.more (own.of t) row)

  -- what it is told
  abbrev pub told_in : Tables → ClientRow → RequestIn A → Facts
  told_in t row r = facts_told tells (r.words ++ r.more (own.of t) row) t

  abbrev pub cause_in : Tables → ClientRow → RequestIn A → Option ServiceError
  cause_in t row r = r.cause (told_in t row r) (own.of t) row

  abbrev pub among : Tables → OutcomeIn A → OutcomeIn Tables
  among t o = record { tables = own.put o.tables t; answer = o.answer; also = o.also }

  abbrev pub effect_in : Tables → ClientRow → ℕ → RequestIn A → OutcomeIn Tables
  effect_in t row invoke r = among t (r.effect (told_in t row r) (own.of t) row invoke)
