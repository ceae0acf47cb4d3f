pub mod Agreements
