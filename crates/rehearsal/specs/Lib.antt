pub mod Rehearsal
