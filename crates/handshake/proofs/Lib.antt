pub mod HandshakeLaws
