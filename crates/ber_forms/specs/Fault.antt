-- What can be wrong with contents.

pub data Fault : Type 0 where
  malformed : Fault
  too_deep : Fault
