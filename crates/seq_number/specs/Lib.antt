pub mod SeqNumber
