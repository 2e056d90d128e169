pub mod MsgNumber
