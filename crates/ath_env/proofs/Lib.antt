pub mod ValueLaws
mod Tables
