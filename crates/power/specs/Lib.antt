pub mod PowerOn
