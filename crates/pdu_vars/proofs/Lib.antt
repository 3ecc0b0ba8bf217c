pub mod Succeeded
mod Worked
